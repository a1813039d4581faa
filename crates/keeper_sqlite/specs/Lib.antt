-- The tables of the database, and what their rows stand for.
pub mod Tables
pub mod Rows
pub mod Faults
pub mod States
pub mod Answering
pub mod Making
pub mod Telling
pub mod Keepers
pub mod Laws
pub mod Schemas
pub mod Adopting
