pub mod SameStream
pub mod ToldStream
mod ToldWorld
