-- What C(4) gives of the relation words, by position. Everything about congruence rests on these facts alone, so what counts as a piece,
-- how wide letters are and how many words are joined to a family are spoken of only where this record is made.
use Prim.Native.Nat.{ℕ, ◌+◌, ◌-◌, ◌≤◌, ◌<◌}
use mathlib.Core.List.{List}
use mathlib.Core.Path.{◌≡◌}
use lib.ListN.{length}
use Rattle.words.specs.Words.{Word}
use Rattle.words.proofs.Segments.{Same}
use Rattle.overlap.specs.Pieces.{word}
use Rattle.overlap.specs.Cuts.{len}

-- `xl i` is the length of X, `xyl i` that of X and Y together, of relation word i
pub record Rigid (B : List Word) (xl xyl : ℕ → ℕ) : Type 0 where
  -- Y is not empty, and X, Y lie in the word
  pub some : (i : ℕ) → i < length B → xl i < xyl i
  pub within : (i : ℕ) → i < length B → xyl i ≤ len B i
  -- a prefix longer than X stands nowhere else
  pub marker : (i j c n : ℕ) → i < length B → j < length B → xl i < n → n ≤ len B i → c + n ≤ len B j → Same (word B i) 0 (word B j) c n → (i ≡ j) × (c ≡ 0)
  -- Y stands nowhere else
  pub middle : (i j c : ℕ) → i < length B → j < length B → c + (xyl i - xl i) ≤ len B j → Same (word B i) (xl i) (word B j) c (xyl i - xl i) → (i ≡ j) × (c ≡ xl i)
  -- an end longer than Z stands nowhere else
  pub tail : (i j a c : ℕ) → i < length B → j < length B → a < xyl i → c + (len B i - a) ≤ len B j → Same (word B i) a (word B j) c (len B i - a) → (i ≡ j) × (c ≡ a)
