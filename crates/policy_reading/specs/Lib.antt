-- the names of a policy's files
pub mod Ordered
-- which files a policy has, and in which order they are gone through
pub mod Metadata
-- that order
pub mod Orders
-- what a file is read as, with its envelope
pub mod Signed
-- who must sign, the first fault, and what is made of files without one
pub mod Validity
-- the first fault of rule files, as a function of them
pub mod Deciding
-- the policy of a target, and the reads that it takes
pub mod Policies
-- the policy in force after the entries of a log
pub mod InForce
-- the reads of objects that the entries of a log may cost
pub mod Reading
-- which policies are valid, read aloud
pub mod Valid
