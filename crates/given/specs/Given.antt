-- A given word in an array of letters of two bytes.
use Rattle.std.specs.Prelude.{ℕ, ◌≤◌, List, ◌≡◌, length, take}

-- the word stands at the start of an array
pub record Widened (w a : List ℕ) : Type 0 where
  pub inside : length w ≤ length a
  pub long : length w ≡ length (take (length w) a)
  pub same : take (length w) a ≡ w
