pub mod Placing
pub mod OneId
pub mod Telling
