pub mod BoxPairs
pub mod DiffSteps
pub mod EqualBytes
pub mod PairSteps
pub mod RowSteps
