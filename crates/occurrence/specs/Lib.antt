-- The first place of a text at which a given word stands, and what is told of it where it is a piece.
pub mod Standing
