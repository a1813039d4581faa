mod Refused
mod Floatless
