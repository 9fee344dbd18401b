-- Every relation word is listed under its first letter, and the table keeps all else while the index is made.
pub mod Keeping
pub mod Making
