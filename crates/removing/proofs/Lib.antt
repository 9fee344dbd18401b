-- A law for each way that the removal of a prefix can go.
pub mod Laws
