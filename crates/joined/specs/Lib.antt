-- What is asked of a word that is given as two slices, and of the part of the text that is compared with it.
pub mod Joined
pub mod Words
