pub mod Json
pub mod Hexadecimal
-- the values that lines are made of, and the line of a value
pub mod Values
-- what is written at the end of a text
pub mod Writing
