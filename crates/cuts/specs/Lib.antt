-- Where X ends and Z starts in a relation word, by the table of longest pieces, and what setting both changes.
pub mod Cutting
