pub mod StableLists
pub mod KeptLists
