-- One relation more in the text and the table: what is asked before both its sides are laid, and what has then changed.
use Rattle.std.specs.Prelude.{ℕ, ◌+◌, ◌*◌, ◌≤◌, ◌<◌, List, [], ◌∷◌, ◌++◌, ◌≡◌, length}
use Rattle.words.specs.Words.{Word}
use Rattle.words.specs.Relations.{Relation}
use Rattle.words.specs.Families.{place_of, including}
use Rattle.limits.specs.Limits.{letters_most, relations_most}
use Rattle.format.specs.Book.{relation_in}
use Rattle.format.specs.Bytes.{RelationWithin}
use Rattle.layout.specs.Layout.{Laid, words_in}
use Rattle.layout.specs.Families.{sides_in}
use Rattle.laying.specs.Appending.{Arrays}

-- count relations are laid with their n words, and the one whose sides lie from `left` to `right` and from there to `to` can be
pub record RelationRoom (book : List ℕ) (left right to : ℕ) (text table : List ℕ) (count n : ℕ) : Type 0 where
  pub letters : ℕ
  pub few : letters ≤ letters_most
  pub within : RelationWithin letters (relation_in book left right to)
  pub first : left ≤ right
  pub second : right ≤ to
  pub inside : to ≤ length book
  pub more : count < relations_most
  pub laid : Laid text table n
  pub before : n ≤ 2 * count
  pub arrays : Arrays text table

-- the words with those of a relation
abbrev pub including_both : List Word → Relation → List Word
including_both D r = including (including D r.left) r.right

-- the places of the two sides among the words as they are laid
abbrev pub both_places : List Word → Relation → List ℕ
both_places D r = place_of r.left D ∷ place_of r.right (including D r.left) ∷ []

-- both its sides have their words, each laid once; n' words are laid then
pub record RelationAppended (book : List ℕ) (left right to : ℕ) (text table : List ℕ) (count n : ℕ) (text' table' : List ℕ) (n' : ℕ) : Type 0 where
  pub laid : Laid text' table' n'
  pub before : n' ≤ 2 * (count + 1)
  pub words : words_in text' table' n' ≡ including_both (words_in text table n) (relation_in book left right to)
  pub sides : sides_in table' (2 * (count + 1)) ≡ sides_in table (2 * count) ++ both_places (words_in text table n) (relation_in book left right to)
  pub text_long : length text' ≡ length text
  pub table_long : length table' ≡ length table
