-- What the single round leaves in its three lent buffers.
pub mod Writing
