-- What writing text at a place of a buffer leaves in it.
use Rattle.std.specs.Prelude.{ℕ, ◌+◌, List, ◌≡◌, length}
use Rattle.words.specs.Writing.{written}

-- the text s is written over the buffer from place `at` on, and r is the place behind it
pub record WrittenTo (out : List ℕ) (at : ℕ) (s after : List ℕ) (r : ℕ) : Type 0 where
  pub behind : r ≡ at + length s
  pub same : after ≡ written at s out
  pub kept : length after ≡ length out
