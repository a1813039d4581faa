-- what a change makes of a repository
pub mod Changes
-- the fault that is counted
pub mod Faults
-- what each call does to what is held, and to what a stop may leave
pub mod Keepers
-- a store that is as it was
pub mod Undisturbed
-- larger repositories: what every object of another is found in too
pub mod Growing
-- what a commit does to a store
pub mod Committing
-- the store in memory
pub mod Stores
-- trees as maps
pub mod Trees
-- a list of objects as two halves
pub mod Halves
-- a list of changes as a plan
pub mod RefPlans
-- inserts that can be taken back
pub mod Undoing
