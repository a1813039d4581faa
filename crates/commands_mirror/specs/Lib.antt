-- the lines that are printed
pub mod Lines
-- what each outcome of `mirror` means
pub mod Offering
-- what each outcome of `evidence-make` means
pub mod Making
-- what each outcome of `evidence-check` means
pub mod Checking
-- what each command comes to where the source and the store tell what they hold: one outcome, faults and memory aside
pub mod Contents
-- the laws of these commands
pub mod Laws
-- what each command does to the objects outside, and what it comes to over what they hold
pub mod Runs
