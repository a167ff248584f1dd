pub mod Arithmetic
pub mod Decimal
pub mod Laws
pub mod Rounding
pub mod Steps
pub mod Text
pub mod Words
