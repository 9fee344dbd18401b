-- The bytes of a new book: what their making asks, and what it promises, for an addition and for a withdrawal.
pub mod Making
