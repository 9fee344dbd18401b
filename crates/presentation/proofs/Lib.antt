-- The words of a book that was read, judged, listed and joined to families: a law for each way that loading can go.
pub mod Checking
pub mod Laws
