-- The longest piece at each place of a text, and what the loops that fill its table keep (document 01, "Pieces, C(4) and cuts").
-- The loops know nothing of relation words: a piece at place p is a common prefix of the text at p and at some other place.
use Rattle.std.specs.Prelude.{ℕ, zero, suc, ◌+◌, ◌-◌, ◌<◌, ◌≤◌, max, cond, List, ◌≡◌, eqb, length, get_or, drop}
use Rattle.words.specs.Words.{common_prefix}
use Rattle.layout.specs.Places.{word_most, text_room}

-- the greatest of the n values of f from a on, or 0
unfoldable pub most : (ℕ → ℕ) → ℕ → ℕ → ℕ
most f a zero = 0
most f a (suc n) = max (most f a n) (f (a + n))

-- the length of the common prefix of the text at p and at q
unfoldable pub shared : List ℕ → ℕ → ℕ → ℕ
shared text p q = common_prefix (drop p text) (drop q text)

-- the longest common prefix of the text at p and at any other place
unfoldable pub longest_at : List ℕ → ℕ → ℕ
longest_at text p = max (most (shared text p) 0 p) (most (shared text p) (p + 1) (length text - (p + 1)))

-- one letter more where the letters x and t agree, else none
unfoldable pub next : ℕ → ℕ → ℕ → ℕ
next x t r = cond (eqb x t) (r + 1) 0

-- the common prefix at q and at a letter x, where the row has that of the places behind them
abbrev pub entry : List ℕ → List ℕ → ℕ → ℕ → ℕ
entry text row x q = next x (get_or text q 0) (get_or row (q + 1) 0)

-- the pass over places `from` to `to` stays in the row, and its numbers in a byte
pub record PassRoom (text row : List ℕ) (x from to : ℕ) : Type 0 where
  pub upwards : from ≤ to
  pub inside : to ≤ length text
  pub further : length text < length row
  pub small : (q : ℕ) → from ≤ q → q < to → entry text row x q ≤ 255

-- the pass has put the common prefixes of the letter x at places `from` to `to`, of which the greatest is `best`, and has kept the other numbers
pub record Passed (text row : List ℕ) (x from to : ℕ) (after : List ℕ) (best : ℕ) : Type 0 where
  pub long : length after ≡ length row
  pub made : (q : ℕ) → from ≤ q → q < to → get_or after q 0 ≡ entry text row x q
  pub below : (q : ℕ) → q < from → get_or after q 0 ≡ get_or row q 0
  pub above : (q : ℕ) → to ≤ q → get_or after q 0 ≡ get_or row q 0
  pub greatest : best ≡ most (entry text row x) from (to - from)

-- no common prefix of two places is longer than a relation word can be
pub record Bounded (text : List ℕ) : Type 0 where
  pub short : (p q : ℕ) → (p ≡ q → ⊥) → shared text p q ≤ word_most

-- the row has the common prefix of the text at p and at each other place
pub record RowOf (text : List ℕ) (p : ℕ) (row : List ℕ) : Type 0 where
  pub further : length text < length row
  pub end : get_or row (length text) 0 ≡ 0
  pub at : (q : ℕ) → q < length text → (q ≡ p → ⊥) → get_or row q 0 ≡ shared text p q

-- the row stands behind place p
pub record Ready (text : List ℕ) (p : ℕ) (row : List ℕ) : Type 0 where
  pub inside : p < length text
  pub bounded : Bounded text
  pub behind : RowOf text (p + 1) row

-- the row stands at place p, whose longest piece is `best`
pub record Advanced (text : List ℕ) (p : ℕ) (row after : List ℕ) (best : ℕ) : Type 0 where
  pub long : length after ≡ length row
  pub here : RowOf text p after
  pub longest : best ≡ longest_at text p

-- the text is short enough for the loops' row, and the table long enough for the text
pub record Space (text longest : List ℕ) : Type 0 where
  pub bounded : Bounded text
  pub short : length text ≤ text_room
  pub room : length text ≤ length longest

-- the table has the longest piece at each place of the text
pub record Tabled (text longest : List ℕ) : Type 0 where
  pub room : length text ≤ length longest
  pub at : (p : ℕ) → p < length text → get_or longest p 0 ≡ longest_at text p
