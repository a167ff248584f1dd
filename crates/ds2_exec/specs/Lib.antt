-- The run of an object over a store.
pub mod CodeRuns
pub mod GatheredCodes
pub mod StageEnds
pub mod LocalCodes
pub mod Workers
pub mod VerdictGrains
pub mod OutputSinks
pub mod ExecOutcomes
pub mod LocalThreads
pub use Rattle.ds2_group_job.specs.StageRuns
