-- Changes, proposals and postings worked out by hand, as tables, with what they give.
pub mod Changes
pub mod Tickets
