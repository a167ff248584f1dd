pub mod Judged
pub mod OwnVerdicts
