-- The loop over the rounds of the least word, and a law for each way that its letters are written.
pub mod Letters
pub mod Rounds
