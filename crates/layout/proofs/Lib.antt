-- Where words, cuts, sides and families are found in the text and the table, what keeps them there, walks along links.
pub mod Placed
pub mod CutPlaces
pub mod Whole
pub mod Cells
pub mod Links
