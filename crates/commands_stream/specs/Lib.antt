-- a stream that is taken into the store, or refused
pub mod Taking
-- what each outcome of `import` means
pub mod Importing
-- what each outcome of `export` means
pub mod Exporting
-- what each command comes to where the source and the store tell what they hold: one outcome, faults and memory aside
pub mod Contents
-- the laws of these commands
pub mod Laws
-- what each command does to the objects outside, and what it comes to over what they hold
pub mod Runs
