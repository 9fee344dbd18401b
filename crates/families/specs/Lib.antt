-- The numbers of families in the table, joined relation by relation, and the links from member to member.
pub mod Joining
pub mod Grouping
