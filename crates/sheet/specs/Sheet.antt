-- The cut sheet (document 01, "The cut sheet") by the numbers of a table, and what writing it asks.
use Rattle.std.specs.Prelude.{ℕ, zero, suc, ◌+◌, ◌*◌, ◌-◌, ◌≤◌, ◌<◌, List, [], ◌∷◌, ◌++◌, length}
use Rattle.limits.specs.Limits.{sheet_columns}
use Rattle.layout.specs.Places.{words_most, word_most, pieces_cell, end_cell, side_cell}
use Rattle.layout.specs.Layout.{start_of, x_end_of, z_start_of, pieces_of, end_of}
use Rattle.layout.specs.Families.{side_word_of}

-- the lengths by the table's positions
abbrev pub x_at : List ℕ → ℕ → ℕ
x_at table i = x_end_of table i - start_of table i

abbrev pub y_at : List ℕ → ℕ → ℕ
y_at table i = z_start_of table i - x_end_of table i

abbrev pub z_at : List ℕ → ℕ → ℕ
z_at table i = end_of table i - z_start_of table i

abbrev pub row_at : List ℕ → ℕ → List ℕ
row_at table i = x_at table i ∷ y_at table i ∷ z_at table i ∷ pieces_of table i ∷ []

-- the rows of the first m sides
unfoldable pub sheet_bytes : List ℕ → ℕ → List ℕ
sheet_bytes table zero = []
sheet_bytes table (suc m) = sheet_bytes table m ++ row_at table (side_word_of table m)

-- the positions of relation word i are there and in order, it is short, and its number of pieces is a byte
pub record CutsIn (table : List ℕ) (i : ℕ) : Type 0 where
  pub room : end_cell i < length table
  pub counted : pieces_cell i < length table
  pub x : start_of table i ≤ x_end_of table i
  pub y : x_end_of table i ≤ z_start_of table i
  pub z : z_start_of table i ≤ end_of table i
  pub short : end_of table i - start_of table i ≤ word_most
  pub pieces : pieces_of table i < 256

-- the word of side s is told, and its cuts are there
pub record SideIn (table : List ℕ) (s : ℕ) : Type 0 where
  pub told : side_cell s < length table
  pub cuts : CutsIn table (side_word_of table s)

-- side s and its place in the sheet
pub record RowRoom (table : List ℕ) (s : ℕ) (sheet : List ℕ) : Type 0 where
  pub side : SideIn table s
  pub place : sheet_columns * s + sheet_columns ≤ length sheet
  pub early : s < words_most

-- m sides and their places
pub record SheetRoom (table : List ℕ) (m : ℕ) (sheet : List ℕ) : Type 0 where
  pub sides : (s : ℕ) → s < m → SideIn table s
  pub place : sheet_columns * m ≤ length sheet
  pub few : m ≤ words_most
