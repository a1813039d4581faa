-- the texts that are read as entries of the log
pub mod EntryTexts
-- what a text is read as where envelopes are wanted
pub mod EnvelopeTexts
