-- The member that comes first, the one that is chosen, the one that carries the next word: a law for each way on.
pub mod Ranks
pub mod Members
pub mod Best
pub mod Laws
pub mod Choosing
