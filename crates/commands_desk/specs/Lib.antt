-- what each outcome of `serve` means
pub mod Readying
-- what it comes to, and that this is one outcome
pub mod Laws
-- what it does to the objects outside
pub mod Runs
-- why an entry is not sent, or not taken, and how the program ends
pub mod Faults
-- the push of the entry of a number
pub mod Preparing
-- what a desk answers, and what is printed of it
pub mod Answering
-- what each outcome of `push` means
pub mod Pushing
-- what it comes to where the store and the desk tell, and that this is one outcome
pub mod Contents
-- what it does to the objects outside
pub mod PushRuns
