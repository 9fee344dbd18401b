-- What narrowing letters to bytes asks of them and of the lent array that they are written into.
use Rattle.std.specs.Prelude.{ℕ, ◌+◌, ◌≤◌, ◌<◌, List, length, get_or}

-- every element fits in a byte
pub record Bytes (s : List ℕ) : Type 0 where
  pub at : (k : ℕ) → k < length s → get_or s k 0 < 256

-- s can be narrowed to bytes at place `at` of d
pub record Narrowing (s d : List ℕ) (at : ℕ) : Type 0 where
  pub room : at + length s ≤ length d
  pub bytes : Bytes s
