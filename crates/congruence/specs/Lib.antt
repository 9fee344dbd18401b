-- Rewrite steps and congruence, the eight rows, the rounds of two words, the theorem that these decide, starred cases.
pub mod Congruence
pub mod Rows
pub mod NoRelationPrefix
pub mod Rounds
pub mod PairRows
pub mod Theorem
pub mod Starred
