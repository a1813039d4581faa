-- a store and a disk that are as they were
pub mod Untouched
-- the lines that are printed
pub mod Lines
-- an entry that is added to a log
pub mod Entries
-- why nothing was read
pub mod Opening
-- why no entry was drafted
pub mod Drafting
-- what each outcome of signing a draft means
pub mod Signing
-- what the commit of an entry does to a store
pub mod Stores
-- what each outcome of adding an entry means
pub mod Appending
-- what each outcome of `record` and of `annotate` means
pub mod Recording
-- how they end the program, what they come to, and the laws of that
pub mod Outcomes
