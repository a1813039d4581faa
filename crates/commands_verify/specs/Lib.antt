-- the verdicts, and the ids of keys that are given
pub mod Verdicts
-- the verdict on a reference of the store that is open
pub mod Judging
-- what each outcome of `verify-ref` means
pub mod Verifying
-- what each command comes to
pub mod Contents
-- the laws of these commands
pub mod Laws
-- what `verify-ref` does to the objects outside, and what it comes to over what they hold
pub mod Runs
-- the verdict on a reference of the store, and the ids of keys that are given
pub mod GlobalJudging
-- what each outcome of `verify-global` means
pub mod GlobalVerifying
-- what the command comes to
pub mod GlobalContents
-- the laws of the command
pub mod GlobalLaws
-- what it does to the objects outside, and what it comes to over what they hold
pub mod GlobalRuns
