mod Numbers
mod Mending
pub mod Walks
pub mod Alike
pub mod Staying
pub mod Epochs
pub mod Gated
pub mod Passing
mod Firsts
mod Steps
mod Skipped
mod Takes
pub mod Later
