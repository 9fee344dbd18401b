-- What a book's bytes are loaded as, and the cut sheet of its sides.
pub mod Loading
pub mod Sheet
pub mod Examples
