-- What is asked and promised where a field, a payload or the record of a relation is looked for in a book.
pub mod Reads
