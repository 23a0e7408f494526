pub mod Equality
pub mod Walks
mod HeaderRoom
mod Ends
mod Kept
mod StsdMemory
