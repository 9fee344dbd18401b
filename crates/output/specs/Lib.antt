-- What the program writes for an input, what a comparison record asks, how long an output can be, worked inputs.
pub mod Requests
pub mod Program
pub mod Examples
pub mod Size
pub mod Writing
