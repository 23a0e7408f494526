pub mod AllTokens
mod Fraction
pub mod Puts
pub mod Whole
