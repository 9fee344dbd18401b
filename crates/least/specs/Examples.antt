-- Least words that were worked out by hand, as one table; that the definitions give all of them is one theorem (proofs/Examples.antt).
-- The letters a, b, c, d, e are 0, 1, 2, 3, 4.
use Rattle.std.specs.Prelude.{List, [], ◌∷◌, ◌≡◌}
use Rattle.words.specs.Words.{Word}
use Rattle.words.specs.Relations.{Relation}
use Rattle.words.specs.Families.{words_of, family_of}
use Rattle.words.specs.Examples.{rule}
use Rattle.congruence.specs.Starred.{book_q}
use Rattle.least.specs.Order.{house_rank}
use Rattle.least.specs.Writing.{Found, found, absent, least_behind}

-- a book's relations, a mark, a word and what the rounds give
pub data Case : Type 0 where
  least : List Relation → Word → Word → Found → Case

abbrev pub Holds : Case → Type 0
Holds (least relations p u r) = least_behind (words_of relations) (family_of relations) house_rank p u ≡ r

abbrev pub All : List Case → Type 0
All [] = Unit {0}
All (c ∷ cs) = Holds c × All cs

-- a = b
abbrev pub book_ab : List Relation
book_ab = rule (0 ∷ []) (1 ∷ []) ∷ []

-- ba = bcb
abbrev pub book_ba : List Relation
book_ba = rule (1 ∷ 0 ∷ []) (1 ∷ 2 ∷ 1 ∷ []) ∷ []

-- ad = de
abbrev pub book_ad : List Relation
book_ad = rule (0 ∷ 3 ∷ []) (3 ∷ 4 ∷ []) ∷ []

-- a letter of rank 0 for the letter 0: letter 32 comes before letter 0
abbrev pub book_ranks : List Relation
book_ranks = rule (0 ∷ []) (32 ∷ 33 ∷ []) ∷ []

-- ad = c, c = aea: a family of three
abbrev pub book_three : List Relation
book_three = rule (0 ∷ 3 ∷ []) (2 ∷ []) ∷ rule (2 ∷ []) (0 ∷ 4 ∷ 0 ∷ []) ∷ []

-- c = e, d = c: three letters in a family
abbrev pub book_letters : List Relation
book_letters = rule (2 ∷ []) (4 ∷ []) ∷ rule (3 ∷ []) (2 ∷ []) ∷ []

-- dg = he, ek = m, where g, h, k, m are 6, 7, 10, 12: whether e is possible depends on the letter behind
abbrev pub book_walk : List Relation
book_walk = rule (3 ∷ 6 ∷ []) (7 ∷ 4 ∷ []) ∷ rule (4 ∷ 10 ∷ []) (12 ∷ []) ∷ []

-- ae = bde, dh = dek, where h, k are 7, 10: behind b, d begins another relation word
abbrev pub book_ends : List Relation
book_ends = rule (0 ∷ 4 ∷ []) (1 ∷ 3 ∷ 4 ∷ []) ∷ rule (3 ∷ 7 ∷ []) (3 ∷ 4 ∷ 10 ∷ []) ∷ []

abbrev pub worked : List Case
worked =
    -- no relations: the word itself; a mark that it begins with, and one that it does not
    least [] [] (1 ∷ 0 ∷ []) (found (1 ∷ 0 ∷ []))
    ∷ least [] [] [] (found [])
    -- a = b: every b becomes a
    ∷ least book_ab [] (1 ∷ 0 ∷ 1 ∷ []) (found (0 ∷ 0 ∷ 0 ∷ []))
    -- Q: abdc for either side
    ∷ least book_q [] (2 ∷ 0 ∷ 3 ∷ 1 ∷ []) (found (0 ∷ 1 ∷ 3 ∷ 2 ∷ []))
    ∷ least book_q [] (0 ∷ 1 ∷ 3 ∷ 2 ∷ []) (found (0 ∷ 1 ∷ 3 ∷ 2 ∷ []))
    -- cadbadb, abdcadb and abdabdc are one class
    ∷ least book_q [] (2 ∷ 0 ∷ 3 ∷ 1 ∷ 0 ∷ 3 ∷ 1 ∷ []) (found (0 ∷ 1 ∷ 3 ∷ 0 ∷ 1 ∷ 3 ∷ 2 ∷ []))
    -- with c taken off: adb, and adbadb; with b: none
    ∷ least book_q (2 ∷ []) (0 ∷ 1 ∷ 3 ∷ 2 ∷ []) (found (0 ∷ 3 ∷ 1 ∷ []))
    ∷ least book_q (2 ∷ []) (0 ∷ 1 ∷ 3 ∷ 0 ∷ 1 ∷ 3 ∷ 2 ∷ []) (found (0 ∷ 3 ∷ 1 ∷ 0 ∷ 3 ∷ 1 ∷ []))
    ∷ least book_q (1 ∷ []) (0 ∷ 1 ∷ 3 ∷ 2 ∷ []) absent
    -- ba = bcb: bacb is congruent to bcbcb, bcba and baa
    ∷ least book_ba [] (1 ∷ 0 ∷ 2 ∷ 1 ∷ []) (found (1 ∷ 0 ∷ 0 ∷ []))
    -- ad = de: deed stays, aad is congruent to ade and dee
    ∷ least book_ad [] (3 ∷ 4 ∷ 4 ∷ []) (found (0 ∷ 0 ∷ 3 ∷ []))
    ∷ least book_ad [] (0 ∷ 0 ∷ 0 ∷ []) (found (0 ∷ 0 ∷ 0 ∷ []))
    ∷ least book_ad (3 ∷ []) (0 ∷ 0 ∷ 3 ∷ []) (found (4 ∷ 4 ∷ []))
    ∷ least book_ad (3 ∷ []) (0 ∷ 0 ∷ []) absent
    -- the house table: 32 comes before 0
    ∷ least book_ranks [] (0 ∷ 0 ∷ []) (found (32 ∷ 33 ∷ 32 ∷ 33 ∷ []))
    -- ad = c, c = aea: cea, adea, aeaea, aec, aead, cd and add are one class; with a taken off: dd
    ∷ least book_three [] (2 ∷ 4 ∷ 0 ∷ []) (found (0 ∷ 3 ∷ 3 ∷ []))
    ∷ least book_three (0 ∷ []) (2 ∷ 3 ∷ []) (found (3 ∷ 3 ∷ []))
    -- c = e, d = c: every d and every e becomes c
    ∷ least book_letters [] (4 ∷ 3 ∷ []) (found (2 ∷ 2 ∷ []))
    -- dg = he, ek = m: hm, hek and dgk are one class
    ∷ least book_walk [] (7 ∷ 12 ∷ []) (found (3 ∷ 6 ∷ 10 ∷ []))
    -- ae = bde, dh = dek: bdh, bdek and aek are one class
    ∷ least book_ends [] (1 ∷ 3 ∷ 7 ∷ []) (found (0 ∷ 4 ∷ 10 ∷ []))
    ∷ []

abbrev pub WorkedHold : Type 0
WorkedHold = All worked
