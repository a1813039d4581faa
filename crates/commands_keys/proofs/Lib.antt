mod ToldOutcome
mod OneSeal
mod ToldSeal
mod SealedFrom
mod ToldWorld
pub mod Placed
pub mod Plain
pub mod Lengths
