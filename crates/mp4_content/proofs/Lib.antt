pub mod FieldSteps
pub mod Fields
pub mod JsonChanges
pub mod JsonNumbers
pub mod ObjectText
pub mod OpenPaths
pub mod PieceSteps
pub mod SettingSteps
