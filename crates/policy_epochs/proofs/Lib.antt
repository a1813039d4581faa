pub mod Members
pub mod Numbers
pub mod OneList
pub mod LastPolicy
pub mod Reading
pub mod Taking
pub mod Following
