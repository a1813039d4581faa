-- the entries of a log, each to be judged in one repository
pub mod Logs
-- the reads that taking an entry may cost
pub mod Reading
-- the verdict on a reference
pub mod Verdicts
-- the line of a verdict
pub mod Lines
-- what an engine followed that takes entries as they come
pub mod Following
-- the one list of the epochs of a log
pub mod OneList
