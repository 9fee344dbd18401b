-- The pass over a book's records: what its loop knows, and a law for each way on.
pub mod Records
