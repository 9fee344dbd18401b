-- The row found by places is the first that fits; the member at the front of v; a law for each way on.
pub mod Shapes
pub mod Members
pub mod Laws
