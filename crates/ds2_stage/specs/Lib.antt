pub mod Passes
pub mod Odds
pub mod Bags
pub mod Working
pub mod Steps
pub mod Next
pub mod Gathered
pub mod Ended
