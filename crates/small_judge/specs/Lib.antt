pub mod SmallRules
