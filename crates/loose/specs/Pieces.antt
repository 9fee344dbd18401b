-- The test for pieces by the table of longest pieces, and the search for a relation word that is a product of three or fewer of them
-- (document 01, "Pieces, C(4) and cuts", refusal 8).
use Rattle.std.specs.Prelude.{ℕ, ◌+◌, ◌-◌, ◌<◌, ◌≤◌, Bool, List, ◌≡◌, leb, length, get_or}
use Rattle.words.specs.Search.{least}
use Rattle.overlap.specs.Cuts.{three, first_loose}
use Rattle.layout.specs.Places.{words_most, word_most, text_room, pieces_cell, end_cell}
use Rattle.layout.specs.Layout.{start_of, end_of, words_in, Laid}
use Rattle.longest.specs.Longest.{Tabled}

-- the test for a piece by the table: m letters, from place a of the word that starts at `start`
abbrev pub held : List ℕ → ℕ → ℕ → ℕ → Bool
held longest start a m = leb m (get_or longest (start + a) 0)

-- the table has a place for each letter of a word of n letters, and for its fence
pub record Covered (longest : List ℕ) (start n : ℕ) : Type 0 where
  pub inside : start + n < length longest

-- two cut points of that word
pub record CutPoints (longest : List ℕ) (start n i j : ℕ) : Type 0 where
  pub inside : start + n < length longest
  pub low : i ≤ j
  pub high : j ≤ n

-- n relation words are laid out, and the text ends with the last one's fence
pub record Fenced (text table : List ℕ) (n : ℕ) : Type 0 where
  pub laid : Laid text table n
  pub whole : length text ≡ start_of table n

-- the text's table of longest pieces has room
pub record Measurable (text table : List ℕ) (n : ℕ) (longest : List ℕ) : Type 0 where
  pub fenced : Fenced text table n
  pub room : text_room ≤ length longest

-- the numbers of word i stay in both tables: it is short, and the longest piece at each of its places ends in it
pub record InTables (longest table : List ℕ) (i : ℕ) : Type 0 where
  pub room : end_cell i < length table
  pub pieces : pieces_cell i < length table
  pub upwards : start_of table i ≤ end_of table i
  pub inside : end_of table i < length longest
  pub short : end_of table i ≤ text_room
  pub long : end_of table i ≤ start_of table i + word_most
  pub within : (p : ℕ) → start_of table i ≤ p → p ≤ end_of table i → p + get_or longest p 0 ≤ end_of table i

-- the numbers of n words stay in both tables
pub record AllInTables (longest table : List ℕ) (n : ℕ) : Type 0 where
  pub few : n ≤ words_most
  pub each : (i : ℕ) → i < n → InTables longest table i

-- word i is a product of three or fewer pieces, by the table of longest pieces
unfoldable pub loose_by : List ℕ → List ℕ → ℕ → Bool
loose_by longest table i = three (held longest (start_of table i)) (end_of table i - start_of table i)

-- the lowest such word, or n
unfoldable pub lowest_loose : List ℕ → List ℕ → ℕ → ℕ
lowest_loose longest table n = least n (loose_by longest table)

-- the table of longest pieces, and the lowest relation word that is a product of three or fewer pieces
pub record Measured (text table : List ℕ) (n : ℕ) (longest : List ℕ) (r : ℕ) : Type 0 where
  pub tabled : Tabled text longest
  pub lowest : r ≡ first_loose (words_in text table n)
