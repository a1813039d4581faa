pub mod Globs
pub mod Patterns
pub mod Passing
