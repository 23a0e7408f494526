pub mod Exit
pub mod LastError
pub mod Misspelt
pub mod Words
