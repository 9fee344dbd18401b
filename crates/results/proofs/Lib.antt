-- A law for each case of an answer, and one for each C function, which passes an answer on.
pub mod Laws
pub mod Calls
