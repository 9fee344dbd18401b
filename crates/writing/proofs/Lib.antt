-- Laws of what is written at a place of an array, and of the loops that copy, widen and narrow.
pub mod Writing
pub mod Loops
