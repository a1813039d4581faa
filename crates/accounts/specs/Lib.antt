-- what is known of each entry of a log once it is judged
pub mod Rows
-- which references no entry speaks of and a rule does
pub mod Unrecorded
-- the lines of a repository's account
pub mod Accounts
-- what telling a verdict may read
pub mod MendReads
-- what holds of them
pub mod Laws
-- which entries an annotation would skip
pub mod Skips
-- what a judged log stands for, and its steps
pub mod Judging
pub mod Fronts
-- where the entries from a number on were judged
pub mod Later
pub mod Steps
