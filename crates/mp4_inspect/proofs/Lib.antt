pub mod Boxes
pub mod FoundFields
pub mod Json
pub mod PatternSteps
pub mod PatternTexts
pub mod TreeSteps
pub mod TurnSteps
pub mod WholeJson
