pub mod StillHeld
pub mod Counting
pub mod Lifted
