pub mod Destination
pub mod Outcome
