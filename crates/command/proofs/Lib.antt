-- The program's writing stays within its buffer.
pub mod Laws
