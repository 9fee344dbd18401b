-- One side more: the number of its word stands in its cell, and the word is laid unless it is there (document 01, "Distinct words and families").
use Rattle.std.specs.Prelude.{ℕ, ◌+◌, ◌≤◌, ◌<◌, Bool, List, [], ◌∷◌, ◌++◌, ◌≡◌, length, get_or}
use Rattle.words.specs.Words.{Word, same_word}
use Rattle.words.specs.Families.{place_of, including}
use Rattle.layout.specs.Places.{words_most, word_most, letters_bound}
use Rattle.layout.specs.Layout.{Laid, word_at, words_in}
use Rattle.layout.specs.Families.{sides_in}
use Rattle.laying.specs.Appending.{Arrays}

-- relation word i of the text is this word
abbrev pub is_word_at : Word → List ℕ → List ℕ → ℕ → Bool
is_word_at word text table i = same_word (word_at text table i) word

-- n relation words are laid, those of the sides before s, and a side can follow
pub record SideRoom (word text table : List ℕ) (n s : ℕ) : Type 0 where
  pub laid : Laid text table n
  pub before : n ≤ s
  pub more : s < words_most
  pub some : 1 ≤ length word
  pub short : length word ≤ word_most
  pub known : (k : ℕ) → k < length word → get_or word k 0 < letters_bound
  pub arrays : Arrays text table

-- side s has the number of its word, which is laid once; n' words are laid then
pub record SideAppended (word text table : List ℕ) (n s : ℕ) (text' table' : List ℕ) (n' : ℕ) : Type 0 where
  pub laid : Laid text' table' n'
  pub few : n' ≤ n + 1
  pub words : words_in text' table' n' ≡ including (words_in text table n) word
  pub sides : sides_in table' (s + 1) ≡ sides_in table s ++ (place_of word (words_in text table n) ∷ [])
  pub text_long : length text' ≡ length text
  pub table_long : length table' ≡ length table
