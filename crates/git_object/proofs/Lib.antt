pub mod CommitLemmas
pub mod Decisions
pub mod IdLemmas
pub mod KeyLemmas
pub mod LineLemmas
pub mod NameLemmas
pub mod NameTests
pub mod NamesAloud
pub mod ObjectAt
pub mod PairLemmas
pub mod Runs
pub mod TagLemmas
pub mod Totality
pub mod TreeLemmas
mod ReferenceNames
