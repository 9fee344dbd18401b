-- What a plan stands for, the plan that each row makes, and what the decision of a round asks.
pub mod Plans
pub mod RowPlans
pub mod Asked
