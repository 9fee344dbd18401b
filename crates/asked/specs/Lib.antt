-- Given words with refusals 9 and 10, what comparing two of them gives, and least words by the house table.
pub mod Given
pub mod Comparing
pub mod Least
pub mod Examples
