pub mod Layout
pub mod SlotSearch
