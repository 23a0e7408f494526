pub mod Lists
pub mod Sums
pub mod Booleans
pub mod Numbers
pub mod Outcomes
