pub mod Shapes
pub mod Files
-- global rules as they are written
pub mod GlobalShapes
-- what may be wrong with them, and what is made of them
pub mod GlobalFiles
