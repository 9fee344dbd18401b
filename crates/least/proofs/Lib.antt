-- The walk tells possible prefixes, each round writes a part of the least word, and the rounds end: the theorems.
pub mod Examples
pub mod Order
pub mod Marks
pub mod Possible
pub mod Choice
pub mod Branches
pub mod NextQuestion
pub mod RoundRight
pub mod Shape
pub mod Ends
pub mod Theorem
