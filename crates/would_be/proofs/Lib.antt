mod Told
mod Firsts
mod Recording
mod Found
