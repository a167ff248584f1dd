pub mod Columns
pub mod Decimals
pub mod Items
pub mod Kept
pub mod Marks
pub mod Texts
