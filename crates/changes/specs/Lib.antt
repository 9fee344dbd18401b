-- Changes of one word, the plans that positions alone make, and the rests of tails.
pub mod Changes
pub mod Asked
