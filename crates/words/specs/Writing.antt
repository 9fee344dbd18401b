-- A list that is written over another: what stands there from a place on, and all else as it was.
use Rattle.std.specs.Prelude.{ℕ, ◌+◌, List, ◌++◌, length, take, drop}

-- s is written over d from place `at` on, the rest kept
unfoldable pub written : ℕ → List ℕ → List ℕ → List ℕ
written at s d = take at d ++ (s ++ drop (at + length s) d)

-- s is written at the start of d, the rest kept: the case of place 0 (`written_zero` in the laws of crate `writing`)
abbrev pub over : List ℕ → List ℕ → List ℕ
over s d = s ++ drop (length s) d
