-- What a head's and a relation's record say, refusals 1 to 6 in turn, by the tests that the code makes.
pub mod Fields
