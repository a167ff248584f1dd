pub mod Across
pub mod Loads
pub mod OneThread
pub mod Table
pub mod LoadLaws
