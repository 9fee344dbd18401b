-- How relation words, cuts, numbers of pieces, sides, families and the index lie in one text and one table.
pub mod Places
pub mod Layout
pub mod Families
pub mod Unique
pub mod Views
