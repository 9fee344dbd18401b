-- Rounds up to a given number, and room for widened words.
pub mod Rounds
pub mod Widening
