-- Which lists of relation words are accepted (document 01, "Refusals by number", 8): C(4) holds of the distinct words.
-- `sides` lists the relation words of all relations in order, equal ones included; `judge` computes the verdict; `RightVerdict` says in words what the verdict is.
use Rattle.std.specs.Prelude.{ℕ, ◌<◌, cond, List, ltb, length}
use Rattle.words.specs.Search.{least}
use Rattle.words.specs.Words.{Word}
use Rattle.words.specs.Families.{distinct_words, word_of_side}
use Rattle.overlap.specs.Pieces.{word, IsProduct, C4}
use Rattle.overlap.specs.Cuts as Cuts

-- the lowest side whose word is a product of three or fewer pieces, or the number of sides
unfoldable pub first_loose_side : List Word → ℕ
first_loose_side sides = least (length sides) (λ s. Cuts.loose (distinct_words sides) (word_of_side sides s))

-- a list of sides is accepted, or the word of one is a product of three or fewer pieces (document 01: loose)
pub data Verdict : Type 0 where
  accepted : Verdict
  loose : ℕ → Verdict

-- refusal 8
unfoldable pub judge : List Word → Verdict
judge sides = cond (ltb (first_loose_side sides) (length sides)) (loose (first_loose_side sides)) accepted

-- in words: relation word i is a product of fewer than m pieces
abbrev pub FewPieces : ℕ → List Word → ℕ → Type 0
FewPieces m B i = (n : ℕ) × (n < m) × IsProduct B n (word B i)

-- i is the lowest number below n with the property
pub record Lowest (n : ℕ) (P : ℕ → Type 0) (i : ℕ) : Type 0 where
  pub below : i < n
  pub holds : P i
  pub none : (k : ℕ) → k < i → ¬ P k

-- in words: the verdict is right of this list of sides
abbrev pub RightVerdict : List Word → Verdict → Type 0
RightVerdict sides accepted = C4 (distinct_words sides)
RightVerdict sides (loose i) = Lowest (length sides) (λ s. FewPieces 4 (distinct_words sides) (word_of_side sides s)) i
