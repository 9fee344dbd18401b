-- The number of pieces of a relation word, by the table of longest pieces (document 01, "Pieces, C(4) and cuts").
use Rattle.std.specs.Prelude.{ℕ, ◌+◌, ◌-◌, ◌<◌, ◌≤◌, List, length, get_or}
use Rattle.overlap.specs.Counts.{number, fewest}
use Rattle.layout.specs.Places.{word_most}
use Rattle.layout.specs.Layout.{start_of, end_of}

-- the longest piece at place a of the word that starts at `start`, by the table
abbrev pub piece_by : List ℕ → ℕ → ℕ → ℕ
piece_by longest start a = get_or longest (start + a) 0

-- the number of pieces of a word of n letters that starts there
unfoldable pub number_from : List ℕ → ℕ → ℕ → ℕ
number_from longest start n = number (fewest (piece_by longest start) n)

-- the number of pieces of word i
abbrev pub number_by : List ℕ → List ℕ → ℕ → ℕ
number_by longest table i = number_from longest (start_of table i) (end_of table i - start_of table i)

-- a short word of n letters, of which the longest piece at each place ends in it
pub record Enclosed (longest : List ℕ) (start n : ℕ) : Type 0 where
  pub inside : start + n < length longest
  pub short : n ≤ word_most
  pub within : (a : ℕ) → a < n → a + piece_by longest start a ≤ n
