-- Pieces, C(4), cuts and numbers of pieces, in words and as they are computed; refusal 8; what is shown of these.
pub mod Pieces
pub mod Cuts
pub mod Counts
pub mod Maximal
pub mod Verdict
pub mod Theorems
pub mod Examples
pub mod Books
