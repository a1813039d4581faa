pub mod FieldValues
pub mod HeadFronts
pub mod HeadAnswers
pub mod Following
pub mod Pieces
pub mod Verdicts
pub mod OneReply
pub mod Parts
pub mod ClientReading
pub mod Uniqueness
pub mod ClientWriting
mod Stopping
