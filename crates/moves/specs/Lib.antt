-- The words that a comparison's state stands for, what a round makes of it, and letters dropped without a plan.
pub mod State
pub mod Drops
