-- What narrowing letters to bytes at a place of a lent array asks.
pub mod Writing
