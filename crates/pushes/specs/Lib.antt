-- the text of a push
pub mod Pushes
-- objects that stand in front of a text, and where they stop
pub mod Fronts
-- where a text is first wrong that is no push
pub mod Refusals
-- what holds of them
pub mod Laws
-- what an object names
pub mod Naming
-- the ids that a push needs, and the first that is nowhere
pub mod Needing
-- the reply to a push, and what it makes of a log and of a repository
pub mod Steps
-- pushes that are made again, commits that fail, and stops
pub mod Retrying
-- what is reached from an object, and from one and not from another
pub mod Reaching
-- the same read aloud, without the walk
pub mod Reached
-- what an entry of a reference goes back to, and the ids that go with an entry
pub mod Going
-- the push of an entry, and why there is none
pub mod Making
-- what holds of it
pub mod MakingLaws
