pub mod Runs
pub mod Chunks
pub mod TrunRows
pub mod Equality
