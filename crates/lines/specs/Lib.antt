-- What writing text at a place of a buffer leaves in it.
pub mod Lines
