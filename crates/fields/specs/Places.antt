-- How many bytes of a buffer the functions on fields answer.
use Rattle.std.specs.Prelude.{ℕ, ◌≤◌, List, ◌≡◌, length, take}

-- the first n elements of a list
pub record Filled (n : ℕ) (out : List ℕ) : Type 0 where
  pub within : n ≤ length out
  pub long : n ≡ length (take n out)
