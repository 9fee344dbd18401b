-- A law for each way that a proposal can go: the sheet shown, and the ticket written.
pub mod Laws
