-- What is owed of held books, of changes, of tickets, of proposals and of postings holds.
pub mod Buffers
pub mod Effects
pub mod Steps
pub mod Tickets
pub mod Theorems
pub mod Numbers
pub mod Postings
pub mod Additions
