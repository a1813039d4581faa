pub mod Files
pub mod Following
pub mod Journals
pub mod Stores
