-- what is asked
pub mod Asked
-- texts that were read
pub mod ReadTexts
-- what an approval's payload says
pub mod ApprovalFields
-- a signature of bytes
pub mod Signed
