-- what a command is to `clap`
pub mod Grammars
-- the words of each command
pub mod Commands
-- which command words ask for
pub mod FirstWords
-- what holds of the grammar
pub mod Laws
-- the two words in front
pub mod Places
-- lists of ids
pub mod Ids
-- numbers up to a limit
pub mod Numbers
-- names in a space
pub mod Spaced
-- what holds of these texts
pub mod ValueLaws
