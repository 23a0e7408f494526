pub mod Parts
pub mod Changed
pub mod Replaced
pub mod Others
pub mod Found
pub mod Making
pub mod Kept
