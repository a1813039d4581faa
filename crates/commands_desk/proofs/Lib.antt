pub mod OneServe
pub mod ToldWorld
pub mod Counted
pub mod Prepared
pub mod Sent
pub mod Ended
pub mod OnePush
pub mod PushToldWorld
