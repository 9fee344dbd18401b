-- One leg of the walk for a possible prefix, and a law for each way that the walk can go.
pub mod Legs
pub mod Laws
