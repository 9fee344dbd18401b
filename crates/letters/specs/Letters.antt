-- The largest letter of a word, which tells whether all are below a number of letters.
use Rattle.std.specs.Prelude.{ℕ, max, [], ◌∷◌}
use Rattle.words.specs.Words.{Word}

-- the largest letter, or 0 of the empty word
unfoldable pub largest : Word → ℕ
largest [] = 0
largest (x ∷ w) = max x (largest w)
