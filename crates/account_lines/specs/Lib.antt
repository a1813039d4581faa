-- the values that tell a fault, an entry and a verdict
pub mod Lines
-- who made an entry
pub mod Authors
-- and when
pub mod Times
-- what holds of them
pub mod Laws
-- which leaf a signature names
pub mod Leaves
-- the greatest that stands signed in a log
pub mod Used
-- what holds of it
pub mod LeafLaws
