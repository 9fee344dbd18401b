-- That the worked examples of loading hold.
pub mod Examples
