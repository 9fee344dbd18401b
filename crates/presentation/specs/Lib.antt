-- What the arrays of a loaded book hold, and what the steps of loading it promise of them.
pub mod Loading
