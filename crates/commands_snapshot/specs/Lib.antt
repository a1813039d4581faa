-- what is made of the listing that the source gives
pub mod Making
-- where a reference stands before a snapshot
pub mod Parents
-- what storing a snapshot does
pub mod Storing
-- what each outcome of `snapshot` means
pub mod Snapshots
-- which refusals are a fault of which object
pub mod Causes
-- what `snapshot` comes to where source and store tell
pub mod Contents
-- the laws of what it comes to
pub mod OutcomeLaws
-- what `snapshot` does to the objects outside, and what it comes to over what they hold
pub mod Runs
