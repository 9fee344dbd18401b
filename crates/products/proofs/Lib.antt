-- The loop that takes the longest piece each time gives the number of pieces, or none: a law for each way on.
pub mod Numbering
