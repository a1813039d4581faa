-- which key signed an entry, and who approved a change
pub mod Signing
-- which rules a name reaches, and whether they are met
pub mod Meeting
-- what changed between two states, and the least path that is not met
pub mod Changing
-- the fault of an entry
pub mod Faults
-- what is learned of states and of changes between them
pub mod Learning
-- the faults of a store, as judging has them
pub mod Judged
-- the rules of judging, with these in their place
pub mod RealRules
-- the same, read aloud
pub mod Readings
