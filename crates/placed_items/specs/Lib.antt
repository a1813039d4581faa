-- the place of an id in a list
pub mod Places
-- how two maps tell it
pub mod Fronts
