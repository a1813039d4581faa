mod EndBytes
pub mod Orders
mod Families
mod Turns
mod Naming
mod Exact
pub mod Reaching
pub mod Searched
pub mod Tellings
mod Seeing
mod Linking
mod Spreading
mod Offcuts
mod Deepening
mod Faults
pub mod Lawful
mod Closing
pub mod Faulty
pub mod Faultless
