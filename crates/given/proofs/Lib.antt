-- A law for each way that the checks of given words can go, and what holds of words that pass.
pub mod Laws
