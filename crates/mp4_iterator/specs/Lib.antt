pub mod Items
pub mod Progress
pub mod Seeks
pub mod Collected
