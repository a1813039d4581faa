-- what a change laid over a repository shows at an id
pub mod Overlaying
-- what is cached, that it stands in a repository, and how much it is
pub mod Caching
-- what a store of one of two kinds tells
pub mod Keepers
-- what a disk of one of two kinds tells
pub mod Disks
-- what a store that is lent tells on
pub mod Lending
