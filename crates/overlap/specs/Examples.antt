-- Numbers of pieces that were worked out by hand, as one table; that the definitions give all of them is one theorem (proofs/Examples.antt).
-- The letters a, b, c, d, e are 0, 1, 2, 3, 4.
use Rattle.std.specs.Prelude.{ℕ, suc, List, [], ◌∷◌, ◌≡◌}
use Rattle.words.specs.Words.{Word}
use Rattle.words.specs.Families.{distinct_words, word_of_side}
use Rattle.overlap.specs.Counts.{number, piece_count}

pub data Case : Type 0 where
  -- a book's relation words, and the number of each in turn
  numbered : List Word → List ℕ → Case
  -- the sides of a book that share a word, and the number of each side's word in turn, where pieces are those of the distinct words
  sided : List Word → List ℕ → Case

-- the numbers of relation word i, of the next one, and so on
abbrev pub NumbersFrom : List Word → ℕ → List ℕ → Type 0
NumbersFrom B i [] = Unit {0}
NumbersFrom B i (n ∷ ns) = (number (piece_count B i) ≡ n) × NumbersFrom B (suc i) ns

-- the numbers of the word of side s, of the next side's, and so on
abbrev pub SidesFrom : List Word → ℕ → List ℕ → Type 0
SidesFrom sides s [] = Unit {0}
SidesFrom sides s (n ∷ ns) = (number (piece_count (distinct_words sides) (word_of_side sides s)) ≡ n) × SidesFrom sides (suc s) ns

abbrev pub Holds : Case → Type 0
Holds (numbered B numbers) = NumbersFrom B 0 numbers
Holds (sided sides numbers) = SidesFrom sides 0 numbers

abbrev pub All : List Case → Type 0
All [] = Unit {0}
All (c ∷ cs) = Holds c × All cs

abbrev pub worked : List Case
worked =
    -- a = b: no piece but the empty one, so no product
    numbered ((0 ∷ []) ∷ (1 ∷ []) ∷ []) (255 ∷ 255 ∷ [])
    -- a = aa: a, and a a
    ∷ numbered ((0 ∷ []) ∷ (0 ∷ 0 ∷ []) ∷ []) (1 ∷ 2 ∷ [])
    -- aa = b: a a; b stands nowhere else
    ∷ numbered ((0 ∷ 0 ∷ []) ∷ (1 ∷ []) ∷ []) (2 ∷ 255 ∷ [])
    -- abdc = acbd: a bd c, and a c bd
    ∷ numbered ((0 ∷ 1 ∷ 3 ∷ 2 ∷ []) ∷ (0 ∷ 2 ∷ 1 ∷ 3 ∷ []) ∷ []) (3 ∷ 3 ∷ [])
    -- Q, abdc = cadb: letter by letter
    ∷ numbered ((0 ∷ 1 ∷ 3 ∷ 2 ∷ []) ∷ (2 ∷ 0 ∷ 3 ∷ 1 ∷ []) ∷ []) (4 ∷ 4 ∷ [])
    -- abcde = edcba: letter by letter
    ∷ numbered ((0 ∷ 1 ∷ 2 ∷ 3 ∷ 4 ∷ []) ∷ (4 ∷ 3 ∷ 2 ∷ 1 ∷ 0 ∷ []) ∷ []) (5 ∷ 5 ∷ [])
    -- abab = bac: ab ab, since ba and ab are pieces too; of bac its last letter stands nowhere else
    ∷ numbered ((0 ∷ 1 ∷ 0 ∷ 1 ∷ []) ∷ (1 ∷ 0 ∷ 2 ∷ []) ∷ []) (2 ∷ 255 ∷ [])
    -- ab = ab: ab is the one distinct word, and each of its letters stands in one place of it, so that no piece but the empty one is there
    ∷ sided ((0 ∷ 1 ∷ []) ∷ (0 ∷ 1 ∷ []) ∷ []) (255 ∷ 255 ∷ [])
    -- ad = c, c = aea: of the distinct words ad, c and aea the letter a alone is a piece; d, c and e stand in one place each
    ∷ sided ((0 ∷ 3 ∷ []) ∷ (2 ∷ []) ∷ (2 ∷ []) ∷ (0 ∷ 4 ∷ 0 ∷ []) ∷ []) (255 ∷ 255 ∷ 255 ∷ 255 ∷ [])
    ∷ []

abbrev pub NumbersHold : Type 0
NumbersHold = All worked
