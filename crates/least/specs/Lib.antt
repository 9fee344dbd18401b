-- Dictionary order, least words, the walk for possible prefixes, the rounds that write least words, the theorems.
pub mod Order
pub mod Least
pub mod Possible
pub mod Writing
pub mod Theorem
pub mod Examples
