-- The letters of a word that are not below a number of letters.
use Rattle.std.specs.Prelude.{ℕ, suc, Bool, cond, [], ◌∷◌, ltb, length}
use Rattle.words.specs.Words.{Word}

-- the position of the first letter that is not below the number of letters, or the word's length
unfoldable pub first_unknown : ℕ → Word → ℕ
first_unknown letters [] = 0
first_unknown letters (x ∷ w) = cond (ltb x letters) (suc (first_unknown letters w)) 0

-- some letter of the word is not below the number of letters
abbrev pub unknown_in : ℕ → Word → Bool
unknown_in letters w = ltb (first_unknown letters w) (length w)
