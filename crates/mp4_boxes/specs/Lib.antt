pub mod Command
pub mod Fault
pub mod Lines
pub mod Outcome
pub mod Parts
pub mod Runs
