-- A round of the state is the round of its words, and keeps their shape: a law for each way on.
pub mod Advancing
pub mod Laws
pub mod Drops
