-- What the names of a method refer to, and what it passes to other methods.
pub mod Scopes
pub mod Flags
pub mod Parameters
pub mod Passing
pub mod FurtherArguments
pub mod ArgumentTrees
