-- The search for the first letter that a book does not have, and the largest letter, which tells whether there is one.
pub mod Letters
