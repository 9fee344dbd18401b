-- The demands on the check, the sheet, the comparison and the least word; a law for each way that an entry can go.
pub mod Laws
pub mod Loaded
pub mod Theorems
pub mod Rooms
pub mod Sheets
pub mod LeastWords
pub mod LeastCalls
pub mod Keeping
pub mod Program
