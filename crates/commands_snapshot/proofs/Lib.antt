mod CommitAt
mod ListingMade
mod Stored
mod OneSnapshot
mod ToldSnapshot
mod ToldWorld
