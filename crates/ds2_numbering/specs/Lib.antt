pub mod SoughtLocations
pub mod SoughtKeys
pub mod SlotNumbers
pub mod NameNumbers
pub mod Searching
pub mod CellNumbers
pub mod FrameNumbers
pub mod BodyTrees
