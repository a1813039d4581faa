-- the file of global rules of a policy
pub mod Found
-- the most persons of a reached rule who signed
pub mod Greatest
-- names for which too few signed
pub mod Thresholds
-- why a change breaks global rules
pub mod Whys
-- the same, read aloud
pub mod Readings
pub mod Order
pub mod Descents
-- the same of a repository, and of two targets
pub mod Commits
pub mod Targets
-- the order of ancestors read aloud
pub mod Reaching
