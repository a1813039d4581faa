-- from where an approval goes, and to which tree
pub mod Ends
-- the approval that is to be signed
pub mod Wanted
-- signing it, and keeping it among the attestations
pub mod Storing
-- the line that is printed
pub mod Lines
-- what each outcome of `approve` means
pub mod Approving
-- how it ends the program
pub mod Outcomes
-- the reads that it may cost
pub mod Reads
-- what `approve` does to the objects outside, and what it comes to over what they hold
pub mod Runs
