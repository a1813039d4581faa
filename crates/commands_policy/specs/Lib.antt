-- what `explain` prints, and its outcomes
pub mod Explaining
-- what `policy-apply` does, and its outcomes
pub mod Applying
-- the reads that the commands may cost
pub mod Reads
-- what the commands come to, and their laws
pub mod Outcomes
-- what each command does to the objects outside, and what it comes to over what they hold
pub mod Runs
