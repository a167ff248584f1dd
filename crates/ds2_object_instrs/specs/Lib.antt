pub mod InstrSpelling
pub mod LawfulInstrs
