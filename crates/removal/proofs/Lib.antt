-- What is owed of the removal of a prefix holds, by the theorem on least words behind a piece; what follows of it.
pub mod Removals
pub mod Theorems
pub mod Keeping
