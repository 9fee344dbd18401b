-- Where a record lies, by the tests of the code, and the walk from record to record.
pub mod Records
pub mod Starts
