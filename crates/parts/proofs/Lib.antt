-- A round of the least word, with a clean relation prefix and without: a law for each way that it can go.
pub mod Laws
pub mod Telling
pub mod Standing
pub mod Wholes
pub mod Others
pub mod Letters
pub mod Rounds
