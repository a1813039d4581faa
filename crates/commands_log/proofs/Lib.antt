pub mod Gathered
pub mod Outcomes
pub mod OneHistory
pub mod Counted
mod ToldWorld
