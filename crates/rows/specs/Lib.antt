-- The first row that fits, by the places of relation words in the text.
pub mod Shapes
