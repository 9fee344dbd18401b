-- Numbers in decimal, and lines of text.
pub mod Decimal
pub mod Lines
pub mod Examples
