pub mod BytesDiffer
pub mod Differences
pub mod Pairs
pub mod RowChanges
pub mod Rows
