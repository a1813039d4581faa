mod Rowed
mod Founds
mod Taking
mod Walked
mod Concluded
pub mod OneGlobal
