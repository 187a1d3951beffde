pub mod PairsIn
