-- the words of what a policy says
pub mod Words
-- what one policy says and another does not
pub mod Changes
-- what holds of that
pub mod Laws
-- the persons of a policy who hold some keys
pub mod Persons
-- what holds of them
pub mod PersonLaws
-- the names that a log speaks of, each once
pub mod Names
-- what holds of them, and what is kept of them
pub mod LogLaws
pub mod Keeping
