-- That the worked examples of given words, comparisons and least words hold.
pub mod Examples
