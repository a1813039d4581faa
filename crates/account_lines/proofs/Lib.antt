mod Floatless
pub mod Reading
mod Words
mod Types
mod Greatest
