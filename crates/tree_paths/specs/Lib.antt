-- What the objects of a repository are read as.
pub mod Readings
-- The walk of a tree as a list of steps, what it counts, and where it is first bad.
pub mod Walks
-- What a target is peeled to, and its state.
pub mod States
-- Two walks paired place by place.
pub mod Pairings
-- Two lists of entries side by side.
pub mod Places
-- The trees of two targets.
pub mod Roots
-- The paths of a walk and its visits.
pub mod Listings
-- What differs between two states, and the reads that this is worth.
pub mod Changes
-- What a path names.
pub mod Leading
-- what stands at a path of a tree, and the readings of a repository
pub mod Lookups
pub mod Repositories
-- the bytes of a blob
pub mod Blobs
-- What steps add to counts, and what is known of trees.
pub mod Adding
pub mod Known
-- the entries of trees that are known or read
pub mod Opening
-- What is read in larger repositories.
pub mod Growing
-- Where a target is broken, read aloud.
pub mod Broken
