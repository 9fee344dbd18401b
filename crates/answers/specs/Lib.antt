-- What each entry answers and leaves in its lent buffers, in the specification's numbers; what is owed of that.
pub mod Answers
pub mod Entries
pub mod Parts
pub mod Demands
pub mod Keeping
pub mod Program
