-- who signed an envelope
pub mod Signers
-- what an approval says
pub mod Payloads
-- which envelope is an approval
pub mod Approvals
-- where an approval stands in the attestations, and who signed it
pub mod Lookups
-- a repository with the new objects finds the approval
pub mod Tied
-- the change that puts an approval into the attestations
pub mod Attesting
-- why an approval is not put there
pub mod Faults
-- where among the attestations an approval is put
pub mod Sites
-- trees with a file put at a path, and nothing else changed
pub mod Files
-- the directories on the way to a file, as they were read
pub mod Levels
-- the new trees, from the file up
pub mod Placing
-- the file that is found there
pub mod Finding
