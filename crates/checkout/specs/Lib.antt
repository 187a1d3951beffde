pub mod Checkout
pub mod CheckoutLaws
pub mod CheckoutRunLaws
