-- One relation word more in the text and the table: what is asked before it is laid, and what has then changed.
use Rattle.std.specs.Prelude.{ℕ, ◌+◌, ◌≤◌, ◌<◌, List, [], ◌∷◌, ◌++◌, ◌≡◌, length, get_or}
use Rattle.layout.specs.Places.{words_most, word_most, letters_bound, text_room, table_room, side_from}
use Rattle.layout.specs.Layout.{Laid, words_in}

-- the arrays have room for the relation words of every book
pub record Arrays (text table : List ℕ) : Type 0 where
  pub text_long : text_room ≤ length text
  pub table_long : length table ≡ table_room

-- i relation words are laid, and one more can be
pub record WordRoom (word text table : List ℕ) (i : ℕ) : Type 0 where
  pub laid : Laid text table i
  pub more : i < words_most
  pub some : 1 ≤ length word
  pub short : length word ≤ word_most
  pub known : (k : ℕ) → k < length word → get_or word k 0 < letters_bound
  pub arrays : Arrays text table

-- the word is laid behind the i before it, and the sides are as they were
pub record Appended (word text table : List ℕ) (i : ℕ) (text' table' : List ℕ) : Type 0 where
  pub laid : Laid text' table' (i + 1)
  pub words : words_in text' table' (i + 1) ≡ words_in text table i ++ (word ∷ [])
  pub beyond : (k : ℕ) → side_from ≤ k → get_or table' k 0 ≡ get_or table k 0
  pub text_long : length text' ≡ length text
  pub table_long : length table' ≡ length table
