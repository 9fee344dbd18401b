-- The largest letter of a word.
pub mod Letters
