-- What is asked where a book is put into the buffer of a held one.
pub mod Held
