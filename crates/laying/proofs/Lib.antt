-- A word laid behind the others unless it is there, and its side: a law for each way on.
pub mod Appending
pub mod Finding
pub mod Sides
