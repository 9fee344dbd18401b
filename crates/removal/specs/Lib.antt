-- What the removal of a prefix answers and leaves in its buffer, what is owed of it, what follows for callers.
pub mod Removal
pub mod Asked
pub mod Demands
