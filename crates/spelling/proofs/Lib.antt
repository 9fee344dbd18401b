-- The laws of decimals, and that the worked examples hold.
pub mod Decimal
pub mod Examples
