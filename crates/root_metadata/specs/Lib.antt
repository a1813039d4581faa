-- Who may sign: lists that rise, and the persons of whom some key signed.
pub mod Risings
pub mod Persons
-- Metadata as it is written, what may be wrong with it, what is kept of it, and roots, in which these come together.
pub mod Shapes
pub mod Judged
pub mod Made
pub mod Roots
-- What keys and persons are found by while they are judged.
pub mod Lookups
