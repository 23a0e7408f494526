pub mod IndexName
