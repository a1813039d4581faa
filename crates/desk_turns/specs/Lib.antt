-- histories: the state behind a turn as it was at the start, and the members that were added since
pub mod Histories
-- a seat as its callers see it, and what each call does to it
pub mod Seats
-- whole runs of a seat
pub mod Runs
-- what a seat of the table knows, below what callers see
pub mod Views
-- the seat that callers have, over its part of the table
pub mod Seated
-- the rule of the table: what its words, the state's place and the seats' views have to do with the one history
pub mod Rule
-- what follows of the rule at every moment
pub mod Moments
-- what each step on the table tells the seat that makes it
pub mod Steps
-- what loading, checking and taking a push make of the log and of a store
pub mod States
-- how an entry in doubt is settled
pub mod Settling
-- what holds of a step over a store that tells what it holds
pub mod Laws
-- legal histories of a desk
pub mod Legal
-- a desk's log and a store that stand for a history
pub mod Standing
-- what each call leaves of that
pub mod Keeping
-- what a shop behind a desk stands for after each call
pub mod Shops
-- what each call of a desk answers, and what it does to the seat of its caller
pub mod Calls
