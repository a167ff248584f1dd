-- The tables of a program's outputs as text.
pub mod ProgramTexts
pub mod OutputHeads
