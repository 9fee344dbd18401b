-- What a held book and a ticket are; what loading, changing, proposing and posting give; what is owed of these.
pub mod Held
pub mod Changes
pub mod Asked
pub mod Tickets
pub mod Demands
pub mod Postings
pub mod Additions
