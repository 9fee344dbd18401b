-- How the relation words lie in arrays. One text holds them one after the other, each once, and behind each stands its fence, a code of its own that is no letter.
-- A table of numbers has the positions of each word and of its cuts, and behind the last word's the length of all; then the number of pieces of each; then sides and
-- families (Families.antt). Behind these stands an index: for each letter, where the words that begin with it are listed; the list; and how much each shares with the one before it.
-- Places.antt says where in the table.
use Rattle.std.specs.Prelude.{ℕ, zero, suc, ◌+◌, ◌-◌, ◌<◌, ◌≤◌, List, [], ◌∷◌, ◌++◌, ◌≡◌, length, get_or}
use Rattle.words.specs.Words.{Word, common_prefix, part}
use Rattle.overlap.specs.Pieces.{C4}
use Rattle.overlap.specs.Cuts.{xlen, zlen}
use Rattle.overlap.specs.Counts.{number, piece_count}
use Rattle.layout.specs.Places.{words_most, word_most, letters_bound, fence_of, start_cell, x_end_cell, z_start_cell, pieces_cell, end_cell, first_from, first_cell, order_cell, shared_cell, table_room}

abbrev pub start_of : List ℕ → ℕ → ℕ
start_of table i = get_or table (start_cell i) 0

abbrev pub x_end_of : List ℕ → ℕ → ℕ
x_end_of table i = get_or table (x_end_cell i) 0

abbrev pub z_start_of : List ℕ → ℕ → ℕ
z_start_of table i = get_or table (z_start_cell i) 0

abbrev pub pieces_of : List ℕ → ℕ → ℕ
pieces_of table i = get_or table (pieces_cell i) 0

abbrev pub end_of : List ℕ → ℕ → ℕ
end_of table i = get_or table (end_cell i) 0

-- the text has a part from a to b
pub record Span (text : List ℕ) (a b : ℕ) : Type 0 where
  pub upwards : a ≤ b
  pub inside : b ≤ length text

-- relation word i of the text
abbrev pub word_at : List ℕ → List ℕ → ℕ → Word
word_at text table i = part text (start_of table i) (end_of table i)

-- the first n relation words of the text
unfoldable pub words_in : List ℕ → List ℕ → ℕ → List Word
words_in text table zero = []
words_in text table (suc n) = words_in text table n ++ (word_at text table n ∷ [])

-- n relation words are laid out, in a table that has room for all positions and numbers of pieces; the cuts and these numbers are not spoken of
pub record Laid (text table : List ℕ) (n : ℕ) : Type 0 where
  pub few : n ≤ words_most
  pub room : start_cell n < length table
  pub wide : first_from ≤ length table
  pub inside : start_of table n ≤ length text
  pub first : start_of table 0 ≡ 0
  pub next : (i : ℕ) → i < n → start_of table (i + 1) ≡ end_of table i + 1
  pub some : (i : ℕ) → i < n → start_of table i < end_of table i
  pub short : (i : ℕ) → i < n → end_of table i ≤ start_of table i + word_most
  pub letters : (i q : ℕ) → i < n → start_of table i ≤ q → q < end_of table i → get_or text q 0 < letters_bound
  pub fence : (i : ℕ) → i < n → get_or text (end_of table i) 0 ≡ fence_of i

-- k is one of the relation words that are laid out
pub record KnownWord (text table : List ℕ) (k : ℕ) : Type 0 where
  pub number : ℕ
  pub laid : Laid text table number
  pub known : k < number

-- h and k are two of them, or one twice
pub record WordPair (text table : List ℕ) (h k : ℕ) : Type 0 where
  pub number : ℕ
  pub laid : Laid text table number
  pub first : h < number
  pub second : k < number

-- the table's cuts are the cuts of the relation words, and its numbers of pieces are theirs
pub record Cut (text table : List ℕ) (n : ℕ) : Type 0 where
  pub x_end : (i : ℕ) → i < n → x_end_of table i ≡ start_of table i + xlen (words_in text table n) i
  pub z_start : (i : ℕ) → i < n → z_start_of table i + zlen (words_in text table n) i ≡ end_of table i
  pub pieces : (i : ℕ) → i < n → pieces_of table i ≡ number (piece_count (words_in text table n) i)

-- the words that begin with letter c are listed from place first_of c on and below first_of (c + 1)
abbrev pub first_of : List ℕ → ℕ → ℕ
first_of table c = get_or table (first_cell c) 0

-- the word listed at place j
abbrev pub order_of : List ℕ → ℕ → ℕ
order_of table j = get_or table (order_cell j) 0

-- how many letters the word listed at place j shares with the one listed before it
abbrev pub shared_of : List ℕ → ℕ → ℕ
shared_of table j = get_or table (shared_cell j) 0

-- the index lists every relation word under its first letter
pub record Indexed (text table : List ℕ) (n : ℕ) : Type 0 where
  pub room : length table ≡ table_room
  pub listed : (c : ℕ) → c < letters_bound → (first_of table c ≤ first_of table (c + 1)) × (first_of table (c + 1) ≤ n)
  pub known : (j : ℕ) → j < n → order_of table j < n
  pub found : (k : ℕ) → k < n
      → (j : ℕ) × (first_of table (get_or text (start_of table k) 0) ≤ j) × (j < first_of table (get_or text (start_of table k) 0 + 1)) × (order_of table j ≡ k)
  pub alike : (j : ℕ) → 0 < j → j < n
      → shared_of table j ≡ common_prefix (word_at text table (order_of table (j - 1))) (word_at text table (order_of table j))

-- the relation words of a book that meets C(4), with their cuts and their index: what every round works on
pub record Checked (text table : List ℕ) (n : ℕ) : Type 0 where
  pub laid : Laid text table n
  pub accepted : C4 (words_in text table n)
  pub cut : Cut text table n
  pub indexed : Indexed text table n
