pub mod ShownSizes
pub mod ShownGroups
pub mod ShownAccesses
pub mod SampleBox
pub mod SampleBoxLaws
pub mod TakenSgpd
pub mod TakenStz2
pub mod TakenTfra
