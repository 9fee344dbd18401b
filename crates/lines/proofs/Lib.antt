-- Laws of the loops that write text at a place of a buffer.
pub mod Laws
