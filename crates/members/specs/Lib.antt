-- Which members have the mark in their X, which of them comes first in the dictionary, and what asking that needs.
pub mod Members
pub mod Asked
