pub mod Clashing
pub mod Placing
pub mod Gaining
pub mod Weighing
