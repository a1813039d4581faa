pub mod Hexadecimal
pub mod Laws
pub mod Line
pub mod Number
