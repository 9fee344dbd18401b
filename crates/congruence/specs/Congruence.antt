-- Presentations, rewrite steps and congruence (document 01: books, exchanges, chains).
use Rattle.std.specs.Prelude.{ℕ, ◌<◌, List, ◌++◌, ◌≡◌, length}
use Rattle.words.specs.Words.{Word}
use Rattle.words.specs.Relations.{other}
use Rattle.overlap.specs.Pieces.{word}

-- one rewrite step (document 01: an exchange): s W t turns into s W' t, where W and W' are the two sides of one relation in either order
pub record Rewrites (B : List Word) (u v : Word) : Type 0 where
  pub by : ℕ
  pub there : by < length B
  pub before : Word
  pub after : Word
  pub from : before ++ (word B by ++ after) ≡ u
  pub to : before ++ (word B (other by) ++ after) ≡ v

-- congruent words: zero or more rewrite steps lead from the first to the second (document 01: a chain joins them)
pub data Congruent (B : List Word) : Word → Word → Type 0 where
  done : {u : Word} → Congruent B u u
  then : {u v w : Word} → Rewrites B u v → Congruent B v w → Congruent B u w
