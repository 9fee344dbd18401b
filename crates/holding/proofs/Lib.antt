-- Where the book lies in its buffer, what taking it up gives, and three writings that are one.
pub mod Laws
