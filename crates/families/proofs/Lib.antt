-- One family of two, the links from the last word down, and that the table keeps all else.
pub mod Kept
pub mod Naming
pub mod Joining
pub mod Linking
pub mod Reading
