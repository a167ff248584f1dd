-- The verdicts on the thread programs of a source.
pub mod ThreadVerdicts
pub mod SourceVerdicts
pub mod OwnVerdicts
