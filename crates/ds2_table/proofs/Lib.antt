pub mod Across
pub mod ByOrder
pub mod Groups
pub mod Parts
pub mod Sorted
pub mod LoadOrder
pub mod FittingRows
