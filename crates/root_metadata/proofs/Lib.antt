mod Sortedness
pub mod Listed
mod Lookups
