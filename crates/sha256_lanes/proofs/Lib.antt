mod Blocks
mod ChMaj
mod Cut
mod Joined
mod Lanes
mod Rotations
mod Sixteen
mod Walking
mod Progress
pub mod Steps
mod Choosing
