-- a tree with one entry put in its place
pub mod Editing
-- what stands under a name among entries
pub mod Named
-- the commits that the program writes
pub mod Texts
-- the rows of a listing
pub mod Rows
-- what is read of a listing: its paths, and a blob for each
pub mod Reading
-- the paths of a listing, and which of them stand below a place
pub mod Listings
-- what the paths of trees are
pub mod TreePaths
-- which trees keep a list of objects
pub mod Keeping
-- the trees that a walk visits
pub mod Made
-- which listings are no tree's
pub mod Matching
