-- What the writing of a ticket asks.
pub mod Tickets
