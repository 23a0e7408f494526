pub mod ExtraBox
pub mod ExtraBoxLaws
pub mod ExtraReading
