pub mod Zeros
mod Messages
pub mod Equality
