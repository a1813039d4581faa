-- when a history of the shop is legal
pub mod Legal
-- the shop as a state that stands for histories, and what one step of it answers and adds
pub mod Shops
-- what a push, and a worker's many, do to the seat of their caller
pub mod Pushes
