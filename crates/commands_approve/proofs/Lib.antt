pub mod Counted
mod Sealed
mod Moved
mod Refused
mod Free
mod ToldOutcome
mod OneOutcome
mod ToldWorld
