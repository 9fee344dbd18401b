-- The verdict on the relation words (document 01, "Pieces, C(4) and cuts", refusal 8), by the definitions of `overlap` and `layout`.
use Rattle.std.specs.Prelude.{ℕ, ◌≤◌, cond, List, ◌≡◌, ltb, length, take, Result, Ok, Err, ⊤}
use Rattle.words.specs.Words.{Word}
use Rattle.overlap.specs.Cuts.{first_loose}
use Rattle.layout.specs.Places.{text_room}
use Rattle.layout.specs.Layout.{Cut, words_in, start_of}
use Rattle.longest.specs.Longest.{Tabled}
use Rattle.cuts.specs.Cutting.{OnlyCuts}
use Rattle.pieces.specs.declared.Loose.{Loose}

-- the lowest of some words that is a product of three or fewer pieces, or none is
unfoldable pub judged_of : List Word → Result ⊤ Loose
judged_of B = cond (ltb (first_loose B) (length B)) (Err (record { word = first_loose B })) (Ok tt)

-- the cuts and the numbers of pieces of n words are in the table, and nothing else has changed
pub record Recut (text table : List ℕ) (n : ℕ) (after : List ℕ) : Type 0 where
  pub kept : OnlyCuts table n after
  pub cut : Cut text after n

-- the answer is the verdict on n laid words; the table has the cuts of accepted words, and is as it was where one is loose
pub record Judging (text table : List ℕ) (n : ℕ) (after : List ℕ) (r : Result ⊤ Loose) : Type 0 where
  pub verdict : r ≡ judged_of (words_in text table n)
  pub cuts : r ≡ Ok tt → Recut text table n after
  pub looses : (loose : Loose) → r ≡ Err loose → after ≡ table

-- the array has the longest piece at each place of the text, as far as the fence of its n-th word
abbrev pub PiecesTabled : List ℕ → List ℕ → ℕ → List ℕ → Type 0
PiecesTabled text table n longest = Tabled (take (start_of table n) text) longest

-- a table of longest pieces was kept in an array if that has room for it
pub record LongestKept (longest array kept : List ℕ) : Type 0 where
  pub same : length longest ≤ length array → take (length longest) kept ≡ longest

-- the verdict on n laid words; and their longest pieces are kept in an array if that has room for those of the longest text
pub record JudgedKept (text table : List ℕ) (n : ℕ) (array after kept : List ℕ) (r : Result ⊤ Loose) : Type 0 where
  pub judging : Judging text table n after r
  pub tabled : text_room ≤ length array → PiecesTabled text table n kept
