-- which links a door gives, and which it has back
pub mod Doors
-- what a door in memory keeps
pub mod MemoryDoors
-- what a peer in memory keeps
pub mod MemoryPeers
-- what a peer over TCP tells
pub mod Untold
