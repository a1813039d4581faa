mod Walked
mod Maxima
mod Paths
pub mod Kept
pub mod Same
pub mod Order
pub mod Turns
pub mod Passing
pub mod Endings
pub mod Walks
pub mod Reaching
pub mod CommitsRead
pub mod Peeling
