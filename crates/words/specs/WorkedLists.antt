-- First unknown letters and lists written over others, worked out by hand; that the definitions give these values is one theorem (proofs/WorkedLists.antt).
use Rattle.std.specs.Prelude.{[], ◌∷◌, ◌≡◌}
use Rattle.words.specs.Letters.{first_unknown}
use Rattle.words.specs.Writing.{written, over}

-- among two letters, 0 and 1, the letter 2 is the first that is unknown; where all are known, and in the empty word, it is the length that is told
pub record ListsHold : Type 0 where
  pub unknown : first_unknown 2 (0 ∷ 1 ∷ 2 ∷ 0 ∷ 3 ∷ []) ≡ 2
  pub known : first_unknown 2 (1 ∷ 0 ∷ 1 ∷ []) ≡ 3
  pub none : first_unknown 2 [] ≡ 0
  -- two numbers are written over four from the second place on, and one over three at the start; all others are kept
  pub inside : written 1 (7 ∷ 8 ∷ []) (1 ∷ 2 ∷ 3 ∷ 4 ∷ []) ≡ (1 ∷ 7 ∷ 8 ∷ 4 ∷ [])
  pub start : over (7 ∷ []) (1 ∷ 2 ∷ 3 ∷ []) ≡ (7 ∷ 2 ∷ 3 ∷ [])
