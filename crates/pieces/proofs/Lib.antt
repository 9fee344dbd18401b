-- The verdict on the words of a text is the definition's, and the cuts are set where it is not refusal 8.
pub mod Verdicts
