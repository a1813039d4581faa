pub mod Putting
pub mod Runs
pub mod Refusing
pub mod Kept
pub mod Made
pub mod Lawful
pub mod InOrder
mod Fronts
mod Taking
