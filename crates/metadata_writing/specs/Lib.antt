-- which values have texts alone in their fields
pub mod Texts
-- what is written for a root and for a rule file
pub mod Written
-- which of them can be written
pub mod Writable
