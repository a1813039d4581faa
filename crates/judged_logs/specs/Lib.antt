-- what mends a violation
pub mod Mends
-- what holds of it
pub mod Laws
-- the way back over a reference's entries by which it is found
pub mod Walking
-- the same log in larger repositories, and rules that last
pub mod Growing
-- a log that grows behind a gate
pub mod Gates
-- changes that add entries, one after the other
pub mod Changes
-- by which entry another is skipped or rescued
pub mod Firsts
-- what is kept of it, and the steps of keeping it
pub mod Keeping
-- what holds of it
pub mod WhomLaws
-- the rules that take the first entries unjudged
pub mod LaterRules
-- what they find as the whole rules do
pub mod LaterLaws
