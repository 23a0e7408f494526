pub mod BitSteps
pub mod FirstZero
pub mod OneByOne
pub mod Room
