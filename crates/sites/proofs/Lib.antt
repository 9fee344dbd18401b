-- X, XY and Z as parts of the text; at most one XY begins a word; letters with which no relation word begins.
pub mod Sites
pub mod CleanPrefixes
pub mod Laws
pub mod FirstLetters
