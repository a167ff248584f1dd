pub mod Surveyed
