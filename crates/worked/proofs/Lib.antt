-- The tables of changes, proposals and postings hold, by computation.
pub mod Changes
pub mod Tickets
