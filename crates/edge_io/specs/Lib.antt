-- reading a source to its end
pub mod Read
-- what the calls of a disk do, and what a stop may leave now
pub mod Disk
-- what a stop might have left at any moment since an earlier one
pub mod Moments
-- what sources and sinks in memory tell
pub mod Told
-- a disk in memory, by the calls that it keeps
pub mod Recorded
-- how the members of a disk in memory hang together
pub mod Recalled
-- an entropy in memory
pub mod Drawn
-- a clock in memory
pub mod Clocks
-- what tells nothing, as a file of the system does
pub mod Nothing
