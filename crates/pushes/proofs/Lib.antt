pub mod Ends
pub mod ObjectLines
pub mod Fronts
pub mod Finding
pub mod EntryLines
pub mod Whole
pub mod OneRefusals
pub mod Walks
pub mod Weights
pub mod Names
pub mod Replying
pub mod LogGrowth
pub mod Retries
pub mod RowLemmas
mod Visiting
mod Reached
mod Values
mod Firsts
mod Ordered
mod Gathered
mod Lengths
mod Written
mod Made
mod Causes
mod OneMakings
mod Lacking
