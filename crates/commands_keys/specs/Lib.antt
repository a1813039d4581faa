-- the line that tells a key
pub mod KeyLines
-- what each outcome of `key-gen` means
pub mod MakingKeys
-- what a command comes to
pub mod Contents
-- the laws of these commands
pub mod Laws
-- what `seal` takes from the source
pub mod Inputs
-- what each outcome of signing an envelope means
pub mod EnvelopeSigning
-- what each outcome of `seal` means
pub mod Sealing
-- what each command does to the objects outside, and what it comes to over what they hold
pub mod Runs
-- a key's signature in an envelope
pub mod Seals
