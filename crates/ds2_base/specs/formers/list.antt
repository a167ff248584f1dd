pub mod List
