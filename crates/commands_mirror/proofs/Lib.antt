pub mod Counted
pub mod CountedEvidence
pub mod EvidenceEnded
pub mod OfferEnded
pub mod SameMirror
pub mod ToldMirror
mod ToldWorld
