-- The old book with a record behind it, or without one of its records, is the bytes of the changed presentation.
pub mod Additions
pub mod Laws
pub mod Changes
