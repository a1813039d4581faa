mod SameOutcome
mod ToldOutcome
mod Headline
