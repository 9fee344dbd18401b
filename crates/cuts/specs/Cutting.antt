-- The cuts of the relation words and their numbers of pieces, by the numbers of the tables that the code reads (document 01, "Pieces, C(4) and cuts").
use Rattle.std.specs.Prelude.{ℕ, ◌+◌, ◌-◌, ◌<◌, ◌≤◌, List, ◌≡◌, leb, length, get_or, set}
use Rattle.words.specs.Search.{greatest}
use Rattle.layout.specs.Places.{words_most, start_cell, x_end_cell, z_start_cell, pieces_from, pieces_cell}
use Rattle.layout.specs.Layout.{start_of, x_end_of, z_start_of, pieces_of, end_of}
use Rattle.products.specs.Products.{number_by}

-- the end of X of word i, by the table of longest pieces
unfoldable pub x_by : List ℕ → List ℕ → ℕ → ℕ
x_by longest table i = start_of table i + get_or longest (start_of table i) 0

-- the length of the longest piece that ends a word
unfoldable pub tail_by : List ℕ → ℕ → ℕ → ℕ
tail_by longest start end = greatest (end - start) (λ m. leb m (get_or longest (end - m) 0))

-- the start of Z of word i
abbrev pub z_by : List ℕ → List ℕ → ℕ → ℕ
z_by longest table i = end_of table i - tail_by longest (start_of table i) (end_of table i)

-- the table in which the two cuts and the number of pieces of word i are set
abbrev pub cut_word : List ℕ → List ℕ → ℕ → List ℕ
cut_word longest table i =
    set (set (set table (x_end_cell i) (x_by longest table i)) (z_start_cell i) (z_by longest table i)) (pieces_cell i) (number_by longest table i)

-- the table of longest pieces has a place for each letter from `start` to `end` and for the fence there
pub record Tail (longest : List ℕ) (start end : ℕ) : Type 0 where
  pub upwards : start ≤ end
  pub inside : end < length longest

-- nothing but the cuts and the numbers of pieces of n words has changed
pub record OnlyCuts (table : List ℕ) (n : ℕ) (after : List ℕ) : Type 0 where
  pub long : length after ≡ length table
  pub starts : (i : ℕ) → i ≤ words_most → start_of after i ≡ start_of table i
  pub ends : (i : ℕ) → i < words_most → end_of after i ≡ end_of table i
  pub between : (k : ℕ) → start_cell n ≤ k → k < pieces_from → get_or after k 0 ≡ get_or table k 0
  pub beyond : (k : ℕ) → pieces_cell n ≤ k → get_or after k 0 ≡ get_or table k 0

-- the cuts and the numbers of pieces of n words, and nothing else, are set by the table of longest pieces
pub record CutBy (longest table : List ℕ) (n : ℕ) (after : List ℕ) : Type 0 where
  pub kept : OnlyCuts table n after
  pub x_end : (i : ℕ) → i < n → x_end_of after i ≡ x_by longest table i
  pub z_start : (i : ℕ) → i < n → z_start_of after i ≡ z_by longest table i
  pub pieces : (i : ℕ) → i < n → pieces_of after i ≡ number_by longest table i
