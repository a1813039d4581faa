-- What is judged, over the whole list of entries: the rules that are given, what the list says of each entry, what is
-- answered, and the same definitions read aloud.
pub mod Rules
pub mod Logs
pub mod Verdicts
pub mod Readings
-- The judge that answers the rules out of a store, what an entry may cost it, and what an engine stands for.
pub mod Judges
pub mod Reads
pub mod Engines
-- What is kept in the list's place: a step of one reference, the books of all, and what is read off them.
pub mod Steps
pub mod Books
pub mod Standings
pub mod Decisions
pub mod Hits
pub mod Tips
