-- What is told of a refusal where there may be none.
pub mod Told
