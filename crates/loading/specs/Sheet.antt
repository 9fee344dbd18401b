-- The cut sheet (document 01, "The cut sheet"), by the cuts and numbers of pieces of the sides' words.
use Rattle.std.specs.Prelude.{ℕ, zero, suc, List, [], ◌∷◌, ◌++◌, length, get_or}
use Rattle.words.specs.Words.{Word}
use Rattle.words.specs.Families.{distinct_words, side_words}
use Rattle.overlap.specs.Cuts.{xlen, ylen, zlen}
use Rattle.overlap.specs.Counts.{number, piece_count}

-- the row of relation word i: the lengths of X, Y, Z and the number of pieces
abbrev pub cut_row : List Word → ℕ → List ℕ
cut_row B i = xlen B i ∷ ylen B i ∷ zlen B i ∷ number (piece_count B i) ∷ []

-- the rows of the first m sides in order, each that of its word; `S` lists the number of each side's word
unfoldable pub cut_bytes : List Word → List ℕ → ℕ → List ℕ
cut_bytes B S zero = []
cut_bytes B S (suc m) = cut_bytes B S m ++ cut_row B (get_or S m 0)

-- the sheet of all sides
abbrev pub cut_sheet : List Word → List ℕ
cut_sheet sides = cut_bytes (distinct_words sides) (side_words sides) (length sides)
