-- What writing the least word, behind a piece or behind nothing, asks and leaves in a buffer.
pub mod Writing
