-- Which relation word's XY stands at a place of a word, and the walk through the words of one letter that finds it.
pub mod Index
pub mod Seek
