-- Distinct words, families (document 02, slip 4) and common suffixes that were worked out by hand, as one table; that the definitions give all of them is one theorem
-- (proofs/Examples.antt).
-- The letters a, b, c, d, e are 0, 1, 2, 3, 4.
use Rattle.std.specs.Prelude.{ℕ, List, [], ◌∷◌, ◌≡◌}
use Rattle.words.specs.Words.{Word, common_suffix}
use Rattle.words.specs.Relations.{Relation, relation_words}
use Rattle.words.specs.Families.{words_of, side_words, families_of}

pub data Case : Type 0 where
  -- a book's relations, its distinct words, of each side in turn the number of its word, and of each distinct word in turn the number of the first member of its family
  joined : List Relation → List Word → List ℕ → List ℕ → Case
  -- two words, and how many letters their common suffix has
  ending : Word → Word → ℕ → Case

abbrev pub Holds : Case → Type 0
Holds (joined relations words numbers families) = (words_of relations ≡ words) × (side_words (relation_words relations) ≡ numbers) × (families_of relations ≡ families)
Holds (ending a b n) = common_suffix a b ≡ n

abbrev pub All : List Case → Type 0
All [] = Unit {0}
All (c ∷ cs) = Holds c × All cs

-- a relation by its two sides
abbrev pub rule : Word → Word → Relation
rule left right = record { left = left; right = right }

abbrev pub worked : List Case
worked =
    -- no relations
    joined [] [] [] []
    -- ab = ab: one word, which stands on both sides, and joins none
    ∷ joined (rule (0 ∷ 1 ∷ []) (0 ∷ 1 ∷ []) ∷ []) ((0 ∷ 1 ∷ []) ∷ []) (0 ∷ 0 ∷ []) (0 ∷ [])
    -- a = ab: the first is a front of the second, and another word
    ∷ joined (rule (0 ∷ []) (0 ∷ 1 ∷ []) ∷ []) ((0 ∷ []) ∷ (0 ∷ 1 ∷ []) ∷ []) (0 ∷ 1 ∷ []) (0 ∷ 0 ∷ [])
    -- ad = c, c = aea: two relations with one word in both, side by side, are one family of three
    ∷ joined (rule (0 ∷ 3 ∷ []) (2 ∷ []) ∷ rule (2 ∷ []) (0 ∷ 4 ∷ 0 ∷ []) ∷ []) ((0 ∷ 3 ∷ []) ∷ (2 ∷ []) ∷ (0 ∷ 4 ∷ 0 ∷ []) ∷ []) (0 ∷ 1 ∷ 1 ∷ 2 ∷ []) (0 ∷ 0 ∷ 0 ∷ [])
    -- c = e, d = c: e and d are joined by two relations
    ∷ joined (rule (2 ∷ []) (4 ∷ []) ∷ rule (3 ∷ []) (2 ∷ []) ∷ []) ((2 ∷ []) ∷ (4 ∷ []) ∷ (3 ∷ []) ∷ []) (0 ∷ 1 ∷ 2 ∷ 0 ∷ []) (0 ∷ 0 ∷ 0 ∷ [])
    -- a = b, c = d: two families
    ∷ joined (rule (0 ∷ []) (1 ∷ []) ∷ rule (2 ∷ []) (3 ∷ []) ∷ []) ((0 ∷ []) ∷ (1 ∷ []) ∷ (2 ∷ []) ∷ (3 ∷ []) ∷ []) (0 ∷ 1 ∷ 2 ∷ 3 ∷ []) (0 ∷ 0 ∷ 2 ∷ 2 ∷ [])
    -- a = b, c = d, d = b: the third relation makes one family of both, c's among it
    ∷ joined (rule (0 ∷ []) (1 ∷ []) ∷ rule (2 ∷ []) (3 ∷ []) ∷ rule (3 ∷ []) (1 ∷ []) ∷ []) ((0 ∷ []) ∷ (1 ∷ []) ∷ (2 ∷ []) ∷ (3 ∷ []) ∷ []) (0 ∷ 1 ∷ 2 ∷ 3 ∷ 3 ∷ 1 ∷ []) (0 ∷ 0 ∷ 0 ∷ 0 ∷ [])
    -- e = e, b = a, c = b: the word of a relation with equal sides is a family by itself
    ∷ joined (rule (4 ∷ []) (4 ∷ []) ∷ rule (1 ∷ []) (0 ∷ []) ∷ rule (2 ∷ []) (1 ∷ []) ∷ []) ((4 ∷ []) ∷ (1 ∷ []) ∷ (0 ∷ []) ∷ (2 ∷ []) ∷ []) (0 ∷ 0 ∷ 1 ∷ 2 ∷ 3 ∷ 1 ∷ []) (0 ∷ 1 ∷ 1 ∷ 1 ∷ [])
    -- acb, cb: cb, the whole second word
    ∷ ending (0 ∷ 2 ∷ 1 ∷ []) (2 ∷ 1 ∷ []) 2
    -- ab, ba: none, though b ends the first and begins the second
    ∷ ending (0 ∷ 1 ∷ []) (1 ∷ 0 ∷ []) 0
    -- dab, cdb: b, though the first letters of the second stand in the first too
    ∷ ending (3 ∷ 0 ∷ 1 ∷ []) (2 ∷ 3 ∷ 1 ∷ []) 1
    -- nothing, a: none
    ∷ ending [] (0 ∷ []) 0
    ∷ []

abbrev pub WordsHold : Type 0
WordsHold = All worked
