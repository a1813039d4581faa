-- an empty store that is filled
pub mod Filling
-- what each outcome of `demo` means
pub mod Demos
-- what `demo` comes to where the store tells what it holds
pub mod Contents
-- the laws of that
pub mod Laws
-- what `demo` does to the objects outside, and what it comes to over what they hold
pub mod Runs
-- the policy: its files, their trees and its commit
pub mod Policies
-- what the files of a change are, and their trees
pub mod Trees
-- the commits and the log, change by change
pub mod Histories
-- how a history that is being made stands
pub mod Standing
-- that each signature is good
pub mod SignatureLaws
-- the three keys
pub mod Keys
-- a key whose journal is in memory, and how often each of the three signed
pub mod Journals
-- that their signatures are good
pub mod KeyLaws
