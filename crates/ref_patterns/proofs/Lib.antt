mod Passed
mod Related
