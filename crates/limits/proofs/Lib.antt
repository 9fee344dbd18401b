-- What each constructor answers, by the tests of a range that its code makes.
pub mod Limits
