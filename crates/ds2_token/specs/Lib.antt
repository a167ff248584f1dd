pub mod Forms
pub mod Laws
pub mod Limits
pub mod Reading
pub mod Scan
pub mod Standing
pub mod Values
pub mod Words
