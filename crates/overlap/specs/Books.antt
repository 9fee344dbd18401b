-- Verdicts, cuts and pieces that were worked out by hand, as one table; that the definitions give all of them is one theorem (proofs/Books.antt).
-- The letters a, b, c, d, e are 0, 1, 2, 3, 4.
use Rattle.std.specs.Prelude.{ℕ, suc, Bool, true, false, List, [], ◌∷◌, ◌≡◌}
use Rattle.words.specs.Words.{Word}
use Rattle.overlap.specs.Cuts.{is_piece, xlen, ylen, zlen}
use Rattle.overlap.specs.Verdict.{Verdict, judge}

pub data Case : Type 0 where
  -- a book's sides, and the verdict on them
  judged : List Word → Verdict → Case
  -- a book's distinct words, and the lengths of X, Y, Z of each in turn
  cut : List Word → List (ℕ × ℕ × ℕ) → Case
  -- a book's distinct words, another word, and whether it is a piece
  tested : List Word → Word → Bool → Case

-- the cuts of relation word i, of the next one, and so on
abbrev pub CutFrom : List Word → ℕ → List (ℕ × ℕ × ℕ) → Type 0
CutFrom B i [] = Unit {0}
CutFrom B i (c ∷ cs) = (xlen B i ≡ c.0) × (ylen B i ≡ c.1) × (zlen B i ≡ c.2) × CutFrom B (suc i) cs

abbrev pub Holds : Case → Type 0
Holds (judged sides verdict) = judge sides ≡ verdict
Holds (cut B cuts) = CutFrom B 0 cuts
Holds (tested B w answer) = is_piece B w ≡ answer

abbrev pub All : List Case → Type 0
All [] = Unit {0}
All (c ∷ cs) = Holds c × All cs

abbrev pub books : List Case
books =
    -- ab = ab: one word, which is no piece by standing on two sides
    judged ((0 ∷ 1 ∷ []) ∷ (0 ∷ 1 ∷ []) ∷ []) Verdict.accepted
    -- c = c, aa = b: aa is a a, and side 2 the lowest that it stands on, though it is the second word
    ∷ judged ((2 ∷ []) ∷ (2 ∷ []) ∷ (0 ∷ 0 ∷ []) ∷ (1 ∷ []) ∷ []) (Verdict.loose 2)
    -- daaa = dc: d aa a, where aa stands at two places that overlap
    ∷ judged ((3 ∷ 0 ∷ 0 ∷ 0 ∷ []) ∷ (3 ∷ 2 ∷ []) ∷ []) (Verdict.loose 0)
    -- abdc = acbd: a bd c, and no two pieces
    ∷ judged ((0 ∷ 1 ∷ 3 ∷ 2 ∷ []) ∷ (0 ∷ 2 ∷ 1 ∷ 3 ∷ []) ∷ []) (Verdict.loose 0)
    -- abdc = cadb: a bd c and c ad b
    ∷ cut ((0 ∷ 1 ∷ 3 ∷ 2 ∷ []) ∷ (2 ∷ 0 ∷ 3 ∷ 1 ∷ []) ∷ []) ((1, 2, 1) ∷ (1, 2, 1) ∷ [])
    -- ad = c, c = aea: a d, c, and a e a
    ∷ cut ((0 ∷ 3 ∷ []) ∷ (2 ∷ []) ∷ (0 ∷ 4 ∷ 0 ∷ []) ∷ []) ((1, 1, 0) ∷ (0, 1, 0) ∷ (1, 1, 1) ∷ [])
    -- abdc = cadb: b is a piece, and ab, which stands at one place alone, is none
    ∷ tested ((0 ∷ 1 ∷ 3 ∷ 2 ∷ []) ∷ (2 ∷ 0 ∷ 3 ∷ 1 ∷ []) ∷ []) (1 ∷ []) true
    ∷ tested ((0 ∷ 1 ∷ 3 ∷ 2 ∷ []) ∷ (2 ∷ 0 ∷ 3 ∷ 1 ∷ []) ∷ []) (0 ∷ 1 ∷ []) false
    ∷ []

abbrev pub BooksHold : Type 0
BooksHold = All books
