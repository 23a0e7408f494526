pub mod Inverse
pub mod Equality
