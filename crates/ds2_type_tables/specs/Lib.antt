pub mod Tables
pub mod Clashes
pub mod Globals
pub mod Bys
pub mod Callables
pub mod Objects
pub mod ScopeLaw
