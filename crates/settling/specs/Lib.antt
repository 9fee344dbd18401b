-- What is asked before a new book takes the place of the held one, and what is answered.
pub mod Settling
