-- A relation word put in its place among the listed words of its letter: what is listed before and then.
pub mod Inserting
