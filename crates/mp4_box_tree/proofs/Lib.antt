pub mod HeaderPut
pub mod Sizes
