mod Beyond
pub mod Naming
pub mod LogNaming
mod Tables
