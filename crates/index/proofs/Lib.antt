-- The walk through the words of one letter finds the one XY that stands at a place, where the rows have one.
pub mod PrefixAt
pub mod Seeking
