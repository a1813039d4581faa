-- the kind of store that a word is opened as, and the statuses of a refusal
pub mod Opening
-- what a store goes on telling that tells nothing of stops
pub mod Telling
