pub mod Lists
pub mod Passes
pub mod Worked
pub mod Joined
pub mod Drawn
pub mod Ended
