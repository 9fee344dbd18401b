-- A walk along the rest of the given word: where it meets a clean relation prefix, and what one leg tells.
pub mod Walks
