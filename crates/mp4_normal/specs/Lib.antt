pub mod Changes
pub mod Normal
