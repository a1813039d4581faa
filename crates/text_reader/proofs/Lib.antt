pub mod LowerHexadecimal
pub mod Matched
pub mod Numbers
pub mod Spellings
pub mod Unique
