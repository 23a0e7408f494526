pub mod Frames
mod NamesFound
pub mod PathTexts
pub mod Places
pub mod Searches
pub mod Steps
pub mod Tops
pub mod Unwound
pub mod Windows
