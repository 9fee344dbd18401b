-- The cut sheet by the numbers of the table, and what writing it asks.
pub mod Sheet
