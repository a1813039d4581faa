-- what would be found of an entry
pub mod Would
-- what holds of it
pub mod Laws
