-- A law for each way that a comparison can go: its rounds, its allowance, its words widened.
pub mod Laws
