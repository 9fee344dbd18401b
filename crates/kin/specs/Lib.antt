-- What is asked where the members of a family are looked through.
pub mod Asked
