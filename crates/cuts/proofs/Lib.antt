-- The loops that set the cuts and the numbers of pieces, and that these are the definition's.
pub mod Cutting
