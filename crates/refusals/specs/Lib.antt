-- The number and the place of each refusal.
pub mod Refusals
