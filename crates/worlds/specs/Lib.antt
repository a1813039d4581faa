-- the objects outside, how they tell what they hold, and how many faults they counted
pub mod Worlds
-- which of them a command touches
pub mod Touching
-- the world of the objects that are lent
pub mod Given
-- what it means that a command ran to an ending
pub mod Running
-- what has to be told, and what is known then
pub mod Telling
pub mod Endings
pub mod Counts
-- the line that names the break of a log
pub mod Breaks
