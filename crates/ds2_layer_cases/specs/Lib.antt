pub mod LoadCursors
pub mod SampleEnds
