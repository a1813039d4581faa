-- the lines of a body
pub mod Lines
-- which lines may stand at each place, and what they say
pub mod Grammar
-- the reading of a whole body
pub mod Reading
-- which line is the first that is not as wanted
pub mod FirstWrong
-- the log as one chain, and its break
pub mod Chain
-- the entries that the ids of a repository lead to
pub mod Logs
-- entries, each with the repository in which it is judged
pub mod Entries
-- the log of a repository with its entries
pub mod Histories
-- a log that grows by an entry
pub mod Growing
-- the text of an entry, as it is written
pub mod Drafts
