pub mod Meetings
pub mod Leasts
pub mod Comparing
pub mod Pairs
pub mod LearnedLarger
pub mod Signers
pub mod Firsts
pub mod Faultless
