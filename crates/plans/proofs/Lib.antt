-- Each row's plan makes its next words, and the decision gives the plan of the row that fits first.
pub mod Carried
pub mod Laws
pub mod Decisions
pub mod Drops
