-- The table's numbers are the sheet's, and a law for each way that the writing of the sheet can go.
pub mod Laws
