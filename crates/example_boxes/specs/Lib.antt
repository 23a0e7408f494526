pub mod Segment
pub mod SegmentLaws
pub mod Mark
pub mod MarkLaws
