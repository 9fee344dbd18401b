-- Laws of a round's writing: one change, the three next words, and letters widened and narrowed on the way.
pub mod Writes
