-- The verdict on the relation words, refusal 8 or the cuts; the table of longest pieces, where it is kept.
pub mod Judging
