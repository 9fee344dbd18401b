-- The longest piece at each place of a text, and what the loops that fill its table keep.
pub mod Longest
