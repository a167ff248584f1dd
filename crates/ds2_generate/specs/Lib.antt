pub mod ConstantWalk
pub mod OwnSlots
pub mod PartsAmong
pub mod OutputParts
pub mod UnitBodies
pub mod Generated
pub mod UnitTables
