mod Counted
mod Written
