-- the ids of objects
pub mod Ids
-- the names of references
pub mod Names
-- the names that are fixed
pub mod References
-- the bytes of a body
pub mod Bodies
-- objects, and the id of one
pub mod Objects
-- what a repository holds
pub mod Repository
-- that a format has one text for each value, and one value for each text
pub mod Grammars
-- the lines in front of a commit or a tag
pub mod HeaderLines
pub mod Commits
pub mod Tags
-- the modes of entries
pub mod Modes
-- entries in their order, and the body of a tree
pub mod Trees
-- what a refusal of a body says
pub mod Faults
-- an entry whose name is still part of a text
pub mod EntryParts
