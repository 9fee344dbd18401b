-- What is asked of a word that is given as two slices, and of a part of the text that is compared with it.
use Rattle.std.specs.Prelude.{ℕ, ◌≤◌, Bool, List, ltb, length, drop}
use Rattle.words.specs.Words.{Word, common_prefix, part}
use Rattle.layout.specs.Layout.{Span}

-- w has a letter at place q
unfoldable pub has_place : Word → ℕ → Bool
has_place w q = ltb q (length w)

-- m letters of the text from `from` to `to` are known to agree with w at place q
pub record Agreed (text : List ℕ) (from to : ℕ) (w : Word) (q m : ℕ) : Type 0 where
  pub span : Span text from to
  pub passed : m ≤ common_prefix (part text from to) (drop q w)
