pub mod Listed
pub mod Judging
pub mod Explained
pub mod Counted
mod OneOutcome
mod ToldOutcome
mod ToldWorld
