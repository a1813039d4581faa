pub mod Cuts
pub mod RowLemmas
pub mod LaneLemmas
pub mod Keeping
pub mod NameLemmas
pub mod RowReads
