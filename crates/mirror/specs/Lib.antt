-- what an offered log is to the kept one
pub mod Offering
-- the references that are the mirror's own
pub mod Names
-- what an offer makes of the kept repository
pub mod Mirrors
-- refusals, and what the objects count
pub mod Faults
-- what each answer to an offer means
pub mod Offers
-- a copy that only grows, and what else holds of offers
pub mod Growing
pub mod Laws
-- the changes of a store
pub mod Changes
-- a change of a store, with what each answer of its commit means
pub mod Settling
-- the parts of an offer
pub mod Reading
