-- What reading a book gives, refusals 1 to 6 among it; the bytes of a book; books worked out by hand.
pub mod Book
pub mod Bytes
pub mod Examples
