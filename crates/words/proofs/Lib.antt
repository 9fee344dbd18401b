-- Laws of words, of their parts and common prefixes and suffixes, of searches; distinct words and families are right.
pub mod Tests
pub mod Picks
pub mod Lists
pub mod Parts
pub mod Relations
pub mod Searching
pub mod Segments
pub mod Prefixes
pub mod Commons
pub mod CommonSuffixes
pub mod Distinct
pub mod Families
pub mod WorkedLists
pub mod Examples
