-- Lines of text: a word, one number or two in decimal, a newline (document 01, "The program").
use Rattle.std.specs.Prelude.{ℕ, List, [], ◌∷◌, ◌++◌}
use Rattle.spelling.specs.Decimal.{decimal}

-- a space and a number
unfoldable pub numbered : ℕ → List ℕ
numbered n = 32 ∷ decimal n

-- a word, a number, a newline
unfoldable pub line_of : List ℕ → ℕ → List ℕ
line_of word n = word ++ (numbered n ++ (10 ∷ []))

-- a word, two numbers, a newline
unfoldable pub pair_line_of : List ℕ → ℕ → ℕ → List ℕ
pair_line_of word n m = word ++ (numbered n ++ (numbered m ++ (10 ∷ [])))
