-- The common suffix of two parts of the text, letter by letter, and a law for each part of a plan.
pub mod CommonSuffixes
pub mod Laws
