-- A law for each way that loading a held book and posting a ticket can go.
pub mod Laws
