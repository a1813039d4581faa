-- the text of a dossier
pub mod Dossiers
-- where a text is first wrong that is none
pub mod Breaks
-- what stands in front, as the readers of parts answer it
pub mod Parts
-- what a signature uses, level by level, and a leaf that two signatures use
pub mod Uses
-- that these are the parts of a good signature
pub mod SignatureParts
-- what a dossier shows
pub mod Finding
-- a key file whose keys all differ, and that its signatures are no reuse
pub mod Honest
-- a walk over the levels of a signature
pub mod Walking
