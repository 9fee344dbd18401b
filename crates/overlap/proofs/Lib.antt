-- What is computed of pieces, C(4), cuts and numbers agrees with the words; and what C(4) gives by position, `Rigid`.
pub mod Rigid
pub mod Places
pub mod Occurrences
pub mod Longest
pub mod Facts
pub mod Agree
pub mod Maximal
pub mod Verdicts
pub mod Fewer
pub mod Reaching
pub mod Counts
pub mod Theorems
pub mod Examples
pub mod Books
