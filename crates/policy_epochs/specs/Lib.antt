-- which entries are epochs, and the policy in force after them
pub mod Epochs
-- the same, read aloud
pub mod Readings
-- what keeps a valid policy from taking effect
pub mod Succession
-- what stands for a log
pub mod Standing
-- the rules of succession, read aloud
pub mod Following
-- the faults as verdicts tell them
pub mod Telling
