-- Laws of the letters of a word in two slices, and of what it has in common with a part of the text.
pub mod Laws
