-- the key file: a header, and a byte for each leaf
pub mod KeyFile
-- what a key file is to one who signs with it
pub mod Files
-- which refusals are a fault that the disk counted
pub mod Faults
-- what is left of a disk on which no key file was made
pub mod Making
-- what a file says of its key, and why one is not loaded
pub mod Loading
-- a signer: its key, a mark for each leaf, and what it signs
pub mod Signing
-- what happens to the leaves of one key, and that none is released twice
pub mod Runs
-- why a key file is not opened
pub mod Opening
-- what each outcome of signing with one leaf means
pub mod Using
-- what each outcome of opening a key file and signing means
pub mod KeySigning
