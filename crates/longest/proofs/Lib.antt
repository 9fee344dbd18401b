-- Common prefixes of two places of a text, and the passes that fill the table of longest pieces by them.
pub mod Shared
pub mod Passes
