pub mod Fixed
pub mod Tokens
pub mod Whole
