-- The reading of the program's input and the writing of its lines; no output is longer than the room that is named.
pub mod Examples
pub mod Reading
pub mod Fuel
pub mod Size
pub mod Writing
pub mod Lines
pub mod Whole
