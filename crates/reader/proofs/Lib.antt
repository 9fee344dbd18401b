-- The loop over a book's records that lays their words: what it knows, and a law for each way on.
pub mod Books
