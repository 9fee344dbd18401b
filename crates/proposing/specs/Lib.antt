-- What is asked before the sheet of a new book is shown.
pub mod Proposing
