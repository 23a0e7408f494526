pub mod BytesEscaped
pub mod WordsTaken
