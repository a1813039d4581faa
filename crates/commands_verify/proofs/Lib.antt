mod SameOutcome
mod StaysOpen
mod ToldContent
mod ToldWorld
mod Counted
mod OneOutcome
mod GlobalToldContent
mod GlobalToldWorld
