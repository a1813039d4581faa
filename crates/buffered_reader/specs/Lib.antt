pub mod Ahead
pub mod Bytes
pub mod Faults
pub mod Lines
pub mod Spaces
pub mod Stops
