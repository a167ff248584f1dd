pub mod ArgumentCounts
