-- Which variables become columns of an output, which outputs and names break a rule, and which names stand beyond a limit.
pub mod OutputParts
pub mod OutputRules
pub mod TooMany
pub mod Repetitions
pub mod NumberOrder
pub mod TypeNumbers
