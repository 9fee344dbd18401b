-- Words: lists of letters, a letter being a number (document 01: runs, of steps).
use Rattle.std.specs.Prelude.{ℕ, suc, ◌-◌, min, Bool, true, false, ◌&&◌, cond, List, [], ◌∷◌, eqb, length, take, drop}
use Rattle.words.specs.Search.{greatest}

abbrev pub Word : Type 0
Word = List ℕ

-- the word has no letter
abbrev pub is_empty : Word → Bool
is_empty [] = true
is_empty (x ∷ u) = false

-- the first word is a prefix of the second (document 01: a front)
unfoldable pub is_prefix : Word → Word → Bool
is_prefix [] u = true
is_prefix (x ∷ a) [] = false
is_prefix (x ∷ a) (y ∷ u) = eqb x y && is_prefix a u

-- the length of the longest common prefix
unfoldable pub common_prefix : Word → Word → ℕ
common_prefix [] u = 0
common_prefix (x ∷ a) [] = 0
common_prefix (x ∷ a) (y ∷ u) = cond (eqb x y) (suc (common_prefix a u)) 0

-- the letters from place a to place b
abbrev pub part : Word → ℕ → ℕ → Word
part w a b = take (b - a) (drop a w)

-- the last n letters
abbrev pub last_letters : ℕ → Word → Word
last_letters n u = drop (length u - n) u

-- the length of the longest common suffix (document 01: common end)
unfoldable pub common_suffix : Word → Word → ℕ
common_suffix a b = greatest (min (length a) (length b)) (λ n. is_prefix (last_letters n a) (last_letters n b))

-- the two words are equal
unfoldable pub same_word : Word → Word → Bool
same_word a b = eqb (length a) (length b) && is_prefix a b
