-- What stands in the text stands in a relation word, and the longest piece where it stands first tells of a piece.
pub mod Laws
