pub mod RefusalOrder
pub mod Outcomes
pub mod Forms
