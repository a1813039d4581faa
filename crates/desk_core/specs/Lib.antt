-- a state that was just loaded
pub mod Loading
-- an engine that took some entries of a log, and takes those behind them
pub mod Lagging
-- what holds of that
pub mod Laws
-- what a push would add, and whether its entry would be refused there
pub mod Adding
-- the gate's relation
pub mod GateSteps
-- what a gate's state has judged, and what each call makes of that
pub mod States
-- steps one after another, and what a gate holds behind them
pub mod Runs
