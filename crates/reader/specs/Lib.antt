-- What the reader of a book promises: its answer, and the relation words laid, each once.
pub mod Reading
