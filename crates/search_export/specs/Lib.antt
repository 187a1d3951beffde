pub mod SearchCall
