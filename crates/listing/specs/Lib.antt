-- What the index has when some letters, or some words of a letter, are done.
pub mod Listing
