-- The starred bench cases of document 01 and further cases of the rows, most of them of relations that share a word, as one table; that the definitions give all of them is one theorem
-- (proofs/Starred.antt). The letters a, b, c, d, e, f, g are 0, 1, 2, 3, 4, 5, 6.
use Rattle.std.specs.Prelude.{ℕ, zero, suc, ◌+◌, ◌-◌, Bool, true, false, ◌&&◌, List, [], ◌∷◌, ◌≡◌, eqb}
use Rattle.words.specs.Search.{any_below}
use Rattle.words.specs.Words.{Word}
use Rattle.words.specs.Relations.{Relation, relation_words}
use Rattle.words.specs.Families.{word_of_side, words_of, family_of}
use Rattle.words.specs.Examples.{rule}
use Rattle.overlap.specs.Cuts.{len, piece_at, xlen, ylen, zlen}
use Rattle.overlap.specs.Verdict.{Verdict, judge}
use Rattle.congruence.specs.Rounds.{CompareAnswer, compare_under}
use Rattle.congruence.specs.Rounds.CompareAnswer.{same, different}

-- the letters from `from` on up to n are a product of m pieces, by the test `piece FROM LENGTH`
unfoldable pub product : (ℕ → ℕ → Bool) → ℕ → ℕ → ℕ → Bool
product piece zero from n = eqb from n
product piece (suc m) from n = any_below (n - from + 1) (λ k. piece from k && product piece m (from + k) n)

pub data Case : Type 0 where
  -- a book's relations, the verdict on them, and the lengths of X, Y, Z of each side in turn where they are accepted
  book : List Relation → Verdict → List (ℕ × ℕ × ℕ) → Case
  -- the word of side i is a product of m + 1 pieces and not of m
  needs : List Relation → ℕ → ℕ → Case
  -- two words under relations, with an allowance of 100
  compared : List Relation → Word → Word → CompareAnswer → Case

-- the cuts of the word of side i, of the next side's, and so on
abbrev pub CutFrom : List Word → List Word → ℕ → List (ℕ × ℕ × ℕ) → Type 0
CutFrom sides B i [] = Unit {0}
CutFrom sides B i (c ∷ cs) =
    (xlen B (word_of_side sides i) ≡ c.0) × (ylen B (word_of_side sides i) ≡ c.1) × (zlen B (word_of_side sides i) ≡ c.2) × CutFrom sides B (suc i) cs

-- word i is a product of m + 1 pieces and not of m
abbrev pub Needs : List Word → ℕ → ℕ → Type 0
Needs B i m = (product (piece_at B i) m 0 (len B i) ≡ false) × (product (piece_at B i) (suc m) 0 (len B i) ≡ true)

-- the definitions give what the case says
abbrev pub Holds : Case → Type 0
Holds (book relations verdict cuts) = (judge (relation_words relations) ≡ verdict) × CutFrom (relation_words relations) (words_of relations) 0 cuts
Holds (needs relations i m) = Needs (words_of relations) (word_of_side (relation_words relations) i) m
Holds (compared relations u v answer) = compare_under (words_of relations) (family_of relations) 100 u v ≡ answer

abbrev pub All : List Case → Type 0
All [] = Unit {0}
All (c ∷ cs) = Holds c × All cs

-- book Q: abdc = cadb
abbrev pub book_q : List Relation
book_q = rule (0 ∷ 1 ∷ 3 ∷ 2 ∷ []) (2 ∷ 0 ∷ 3 ∷ 1 ∷ []) ∷ []

abbrev pub starred : List Case
starred =
    -- a = aa: loose, side 0
    book (rule (0 ∷ []) (0 ∷ 0 ∷ []) ∷ []) (Verdict.loose 0) []
    -- aa = b: loose, side 0
    ∷ book (rule (0 ∷ 0 ∷ []) (1 ∷ []) ∷ []) (Verdict.loose 0) []
    -- a = b: accepted, cuts 0 1 0, 0 1 0
    ∷ book (rule (0 ∷ []) (1 ∷ []) ∷ []) Verdict.accepted ((0, 1, 0) ∷ (0, 1, 0) ∷ [])
    -- ab = ab: accepted, cuts 0 2 0, 0 2 0
    ∷ book (rule (0 ∷ 1 ∷ []) (0 ∷ 1 ∷ []) ∷ []) Verdict.accepted ((0, 2, 0) ∷ (0, 2, 0) ∷ [])
    -- abdc = acbd: loose, side 0
    ∷ book (rule (0 ∷ 1 ∷ 3 ∷ 2 ∷ []) (0 ∷ 2 ∷ 1 ∷ 3 ∷ []) ∷ []) (Verdict.loose 0) []
    -- Q: accepted, cuts 1 2 1, 1 2 1, four needed
    ∷ book book_q Verdict.accepted ((1, 2, 1) ∷ (1, 2, 1) ∷ [])
    ∷ needs book_q 0 3
    ∷ needs book_q 1 3
    -- empty, empty: same 0
    ∷ compared book_q [] [] (same 0)
    -- a, empty: different 0
    ∷ compared book_q (0 ∷ []) [] (different 0)
    -- abd, abd: same 1
    ∷ compared book_q (0 ∷ 1 ∷ 3 ∷ []) (0 ∷ 1 ∷ 3 ∷ []) (same 1)
    -- abd, cad: different 0
    ∷ compared book_q (0 ∷ 1 ∷ 3 ∷ []) (2 ∷ 0 ∷ 3 ∷ []) (different 0)
    -- abdc, cadb: same 2
    ∷ compared book_q (0 ∷ 1 ∷ 3 ∷ 2 ∷ []) (2 ∷ 0 ∷ 3 ∷ 1 ∷ []) (same 2)
    -- abdcad, cadbad: same 2
    ∷ compared book_q (0 ∷ 1 ∷ 3 ∷ 2 ∷ 0 ∷ 3 ∷ []) (2 ∷ 0 ∷ 3 ∷ 1 ∷ 0 ∷ 3 ∷ []) (same 2)
    -- cadbadb, abdabdc: same 3
    ∷ compared book_q (2 ∷ 0 ∷ 3 ∷ 1 ∷ 0 ∷ 3 ∷ 1 ∷ []) (0 ∷ 1 ∷ 3 ∷ 0 ∷ 1 ∷ 3 ∷ 2 ∷ []) (same 3)
    -- books that share a word, and a mark in the other word's X
    -- ad = c, c = aea: accepted, cuts 1 1 0, 0 1 0, 0 1 0, 1 1 1
    ∷ book (rule (0 ∷ 3 ∷ []) (2 ∷ []) ∷ rule (2 ∷ []) (0 ∷ 4 ∷ 0 ∷ []) ∷ []) Verdict.accepted ((1, 1, 0) ∷ (0, 1, 0) ∷ (0, 1, 0) ∷ (1, 1, 1) ∷ [])
    -- under it cea, cd: same 2; row 4 goes on with the tail of aea, the first other member for which ea is active, and not with that of ad, the first other one
    ∷ compared (rule (0 ∷ 3 ∷ []) (2 ∷ []) ∷ rule (2 ∷ []) (0 ∷ 4 ∷ 0 ∷ []) ∷ []) (2 ∷ 4 ∷ 0 ∷ []) (2 ∷ 3 ∷ []) (same 2)
    -- d = d, cac = d with d, d: same 2; the first other member of d is cac and not the other side with the same word
    ∷ compared (rule (3 ∷ []) (3 ∷ []) ∷ rule (2 ∷ 0 ∷ 2 ∷ []) (3 ∷ []) ∷ []) (3 ∷ []) (3 ∷ []) (same 2)
    -- ada = ca with adca, cca: same 3; in the second round both words are ca and the mark a is a prefix of the X of ada alone
    ∷ compared (rule (0 ∷ 3 ∷ 0 ∷ []) (2 ∷ 0 ∷ []) ∷ []) (0 ∷ 3 ∷ 2 ∷ 0 ∷ []) (2 ∷ 2 ∷ 0 ∷ []) (same 3)
    -- c = e, d = c with e, d: same 1; two relations make them one family
    ∷ compared (rule (2 ∷ []) (4 ∷ []) ∷ rule (3 ∷ []) (2 ∷ []) ∷ []) (4 ∷ []) (3 ∷ []) (same 1)
    -- abc = fc, be = g with abe, ag: same 2; ab begins abe, but be begins before its end, so that it is no clean front
    ∷ compared (rule (0 ∷ 1 ∷ 2 ∷ []) (5 ∷ 2 ∷ []) ∷ rule (1 ∷ 4 ∷ []) (6 ∷ []) ∷ []) (0 ∷ 1 ∷ 4 ∷ []) (0 ∷ 6 ∷ []) (same 2)
    -- ad = c, c = aea with aeac, aeac: same 2; c is not active for the tail a, since it begins behind it, so that row 4 goes on with the empty tail of ad
    ∷ compared (rule (0 ∷ 3 ∷ []) (2 ∷ []) ∷ rule (2 ∷ []) (0 ∷ 4 ∷ 0 ∷ []) ∷ []) (0 ∷ 4 ∷ 0 ∷ 2 ∷ []) (0 ∷ 4 ∷ 0 ∷ 2 ∷ []) (same 2)
    -- ac = bc, ch = k, where h, k are 7, 10, with ak, bk: same 2; row 8 leaves the mark c, which is the X of ch, and a tail of no member
    ∷ compared (rule (0 ∷ 2 ∷ []) (1 ∷ 2 ∷ []) ∷ rule (2 ∷ 7 ∷ []) (10 ∷ []) ∷ []) (0 ∷ 10 ∷ []) (1 ∷ 10 ∷ []) (same 2)
    -- a = b, c = d with a, c: different 0; c is a member of another family
    ∷ compared (rule (0 ∷ []) (1 ∷ []) ∷ rule (2 ∷ []) (3 ∷ []) ∷ []) (0 ∷ []) (2 ∷ []) (different 0)
    -- Q with abdabdc, cadbadb, the starred pair the other way round: same 3; row 6 puts the tail c of abdc, and not b, before adb
    ∷ compared book_q (0 ∷ 1 ∷ 3 ∷ 0 ∷ 1 ∷ 3 ∷ 2 ∷ []) (2 ∷ 0 ∷ 3 ∷ 1 ∷ 0 ∷ 3 ∷ 1 ∷ []) (same 3)
    ∷ []

-- every starred case holds
abbrev pub StarredHold : Type 0
StarredHold = All starred
