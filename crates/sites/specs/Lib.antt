-- Where relation words lie in the text, and what is read at the front of a word: an XY, clean or not, first letters.
pub mod Sites
pub mod Prefixes
pub mod FirstLetters
