-- The number of pieces of a relation word, by the table of longest pieces.
pub mod Products
