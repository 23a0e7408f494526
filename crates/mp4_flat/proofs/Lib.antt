pub mod Units
pub mod Equality
