-- why no desk is open over a store, and what that leaves of the store
pub mod Opening
-- what a desk over a store answers
pub mod Answers
-- what its replies to pushes come to
pub mod Steps
-- and where it has a gate
pub mod Gates
-- what its seats were asked while it served
pub mod Served
-- the code and the body of each reply, and what becomes of the seat
pub mod ServingAnswers
-- a connection: one request, and its reply
pub mod Connections
-- workers, each of which serves the connections that come in at its door
pub mod Workers
