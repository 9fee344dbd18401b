-- Reading and bytes are inverse, what is read lies within the limits, an addition is read as at the book's end.
pub mod Examples
pub mod Readings
pub mod Bytes
pub mod Unique
pub mod Lengths
pub mod Additions
pub mod Refused
