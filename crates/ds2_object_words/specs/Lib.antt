pub mod Parts
pub mod PartLaws
pub mod Words
pub mod CodeParts
pub mod LawfulParts
pub mod PartExamples
