-- what stands for the global rules of the policy in force
pub mod InForce
-- why an entry breaks them
pub mod Rows
-- the verdict on a reference
pub mod Verdicts
-- the line of a verdict
pub mod Lines
-- what a log stands for that is judged, and the steps of judging it
pub mod Passing
