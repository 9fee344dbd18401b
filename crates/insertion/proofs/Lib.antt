-- Where two relation words part, and that a word which takes its place in a list moves others and loses none.
pub mod Counting
pub mod Keeping
pub mod Inserting
