-- The search as it is defined: chains of rules, which of them a name reaches, and what is told of one that is not met.
pub mod Chains
pub mod Reached
pub mod Telling
-- Which rule files are the rules of a policy, and those in which each listed key is a person.
pub mod Assembling
pub mod SchemaOne
-- What putting them together and searching keep on their way: links, marks, names that were seen, and the walk.
pub mod Forests
pub mod Marks
pub mod Seen
pub mod Deep
pub mod Walks
-- texts that end as a glob does
pub mod Ends
