-- Words, bounded searches, relations, distinct words and families; unknown letters; lists written over others.
pub mod Search
pub mod Words
pub mod Relations
pub mod Families
pub mod Letters
pub mod Writing
pub mod WorkedLists
pub mod Examples
