pub mod Lanes
pub mod Rows
pub mod Marking
pub mod Steps
