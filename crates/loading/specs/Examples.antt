-- Books and what loading them gives, worked out by hand from document 01 ("Bench cases", "Rules that share a stretch"): the refusal, or the cut sheet of the book that is
-- accepted. That the definitions give these values is one theorem (proofs/Examples.antt).
use Rattle.std.specs.Prelude.{ℕ, List, [], ◌∷◌, ◌++◌, ◌≡◌}
use Rattle.words.specs.Words.{Word}
use Rattle.words.specs.Relations.{Relation, relation_words}
use Rattle.refusals.specs.declared.Refusal.{Refusal}
use Rattle.refusals.specs.declared.Refusal.TheVariants.{Short, Loose}
use Rattle.format.specs.Book.{BookReading}
use Rattle.format.specs.Bytes.{book_bytes}
use Rattle.loading.specs.Loading.{load_book}
use Rattle.loading.specs.Sheet.{cut_sheet}

-- what is told of a book: its cut sheet, or why it is refused
pub data Told : Type 0 where
  sheet : List ℕ → Told
  refuses : Refusal → Told

abbrev pub told_of : BookReading → Told
told_of (BookReading.read presentation) = sheet (cut_sheet (relation_words presentation.relations))
told_of (BookReading.refused r) = refuses r

pub record Example : Type 0 where
  pub book : List ℕ
  pub tells : Told

-- the bytes of a book of five letters, a to e
abbrev five : List Relation → List ℕ
five relations = book_bytes (record { letters = 5; relations = relations })

infix 3 ◌equals◌
abbrev ◌equals◌ : Word → Word → Relation
left equals right = record { left = left; right = right }

infix 2 ◌tells◌
abbrev ◌tells◌ : List ℕ → Told → Example
book tells told = record { book = book; tells = told }

abbrev a : ℕ
a = 0

abbrev b : ℕ
b = 1

abbrev c : ℕ
c = 2

abbrev d : ℕ
d = 3

abbrev e : ℕ
e = 4

unfoldable pub examples : List Example
examples =
    -- no byte at all, and no relation
    ([] tells refuses (Short 0))
    ∷ (five [] tells sheet [])
    -- a = aa, aa = b: a is a piece, of which both sides with an a are products
    ∷ (five (((a ∷ []) equals (a ∷ a ∷ [])) ∷ []) tells refuses (Loose 0))
    ∷ (five (((a ∷ a ∷ []) equals (b ∷ [])) ∷ []) tells refuses (Loose 0))
    -- a = b: no letter stands twice
    ∷ (five (((a ∷ []) equals (b ∷ [])) ∷ []) tells sheet (0 ∷ 1 ∷ 0 ∷ 255 ∷ 0 ∷ 1 ∷ 0 ∷ 255 ∷ []))
    -- ab = ab: one word, in which no letter stands twice
    ∷ (five (((a ∷ b ∷ []) equals (a ∷ b ∷ [])) ∷ []) tells sheet (0 ∷ 2 ∷ 0 ∷ 255 ∷ 0 ∷ 2 ∷ 0 ∷ 255 ∷ []))
    -- abdc = acbd: a, bd and c are pieces; e = bb: b is one
    ∷ (five (((a ∷ b ∷ d ∷ c ∷ []) equals (a ∷ c ∷ b ∷ d ∷ [])) ∷ []) tells refuses (Loose 0))
    ∷ (five (((e ∷ []) equals (b ∷ b ∷ [])) ∷ []) tells refuses (Loose 1))
    -- abdc = cadb: four pieces of one letter in either side
    ∷ (five (((a ∷ b ∷ d ∷ c ∷ []) equals (c ∷ a ∷ d ∷ b ∷ [])) ∷ []) tells sheet (1 ∷ 2 ∷ 1 ∷ 4 ∷ 1 ∷ 2 ∷ 1 ∷ 4 ∷ []))
    -- ad = c, c = aea: c is one word on two sides, and a the one piece
    ∷ (five (((a ∷ d ∷ []) equals (c ∷ [])) ∷ ((c ∷ []) equals (a ∷ e ∷ a ∷ [])) ∷ []) tells sheet (1 ∷ 1 ∷ 0 ∷ 255 ∷ 0 ∷ 1 ∷ 0 ∷ 255 ∷ 0 ∷ 1 ∷ 0 ∷ 255 ∷ 1 ∷ 1 ∷ 1 ∷ 255 ∷ []))
    -- a record that is cut off comes before a side that is loose: the head has 5 bytes, a = aa has 9
    ∷ ((five (((a ∷ []) equals (a ∷ a ∷ [])) ∷ []) ++ (0 ∷ [])) tells refuses (Short 14))
    ∷ []

-- loading each book tells what stands beside it
pub data Hold : List Example → Type 0 where
  none : Hold []
  more : {x : Example} {xs : List Example} → told_of (load_book x.book) ≡ x.tells → Hold xs → Hold (x ∷ xs)

abbrev pub LoadedHold : Type 0
LoadedHold = Hold examples
