-- What is printed: the lines of a log's entries, and the line that names a break.
pub mod Lines
pub mod Faults
pub mod Printing
-- What the outcomes of the command mean, and what holds of them.
pub mod Logging
pub mod Laws
-- What each command does to the objects outside, and what it comes to over what they hold.
pub mod Runs
