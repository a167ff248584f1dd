pub mod SlotCells
pub mod WrittenRows
