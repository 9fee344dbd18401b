-- How many of the first bytes of a buffer are meant, and what the fields of a text are.
pub mod Places
pub mod Texts
