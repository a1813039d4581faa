-- a shop that stands for a history
pub mod Standing
-- what each call of a shop leaves and answers
pub mod Calls
-- a shop as what a desk asks
pub mod Desks
-- a repository's stream as one text in memory
pub mod Texts
-- a gate's shop that stands for a history
pub mod GateStanding
-- what each of its answers says of that
pub mod GateCalls
-- a gate's shop as what a desk asks, and what its answers come to
pub mod Steps
