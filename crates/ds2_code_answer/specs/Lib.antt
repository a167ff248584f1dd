pub mod CodeTables
pub mod CodeLoads
pub mod CodeAnswer
pub mod CodeLoadLaws
pub mod Endings
pub mod StageTold
pub mod StageSchedules
pub mod CodeSample
