pub mod Endings
pub mod Rest
pub mod StageEnds
