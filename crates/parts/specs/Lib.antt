-- The state of the least word, and what one round writes of it: a letter, or the part of a chosen member.
pub mod State
pub mod Letters
pub mod Choices
pub mod Asked
