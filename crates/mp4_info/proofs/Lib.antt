pub mod Starts
pub mod Tracks
pub mod Clauses
pub mod TableEnds
pub mod TagSteps
pub mod FileJson
pub mod Sequences
