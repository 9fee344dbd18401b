-- The limits as the definitions have them, and what the constructors that check ranges answer.
pub mod Limits
