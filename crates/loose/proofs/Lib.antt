-- No piece crosses a fence; the search over two cut points, also where its loops are left; the lowest loose word.
pub mod Fences
pub mod Loose
pub mod Lowest
