-- Sides and families in the table: which word each side is, how many words there are, which family each word is of, and the links from member to member.
use Rattle.std.specs.Prelude.{ℕ, zero, suc, ◌≤◌, ◌<◌, List, [], ◌∷◌, ◌++◌, ◌≡◌, get_or, length}
use Rattle.words.specs.Families.{family_in}
use Rattle.layout.specs.Places.{side_cell, count_cell, family_cell, next_cell}
use Rattle.layout.specs.Layout.{Checked}

-- the number of the word of side s
abbrev pub side_word_of : List ℕ → ℕ → ℕ
side_word_of table s = get_or table (side_cell s) 0

-- the words of the first m sides
unfoldable pub sides_in : List ℕ → ℕ → List ℕ
sides_in table zero = []
sides_in table (suc m) = sides_in table m ++ (side_word_of table m ∷ [])

-- how many relation words there are
abbrev pub count_of : List ℕ → ℕ
count_of table = get_or table count_cell 0

-- the family of relation word i
abbrev pub family_at : List ℕ → ℕ → ℕ
family_at table i = get_or table (family_cell i) 0

-- the families of the first n relation words
unfoldable pub families_in : List ℕ → ℕ → List ℕ
families_in table zero = []
families_in table (suc n) = families_in table n ++ (family_at table n ∷ [])

-- the same as a function of a word's number
abbrev pub family_by : List ℕ → ℕ → ℕ → ℕ
family_by table n = family_in (families_in table n)

-- the member behind relation word i in its family
abbrev pub next_of : List ℕ → ℕ → ℕ
next_of table i = get_or table (next_cell i) 0

-- the links of the families of n relation words: a family's number is its lowest member, and from each member the next one is found; behind the last stands no word
pub record Linked (table : List ℕ) (n : ℕ) : Type 0 where
  pub low : (i : ℕ) → i < n → family_at table i ≤ i
  pub lowest : (i : ℕ) → i < n → family_at table (family_at table i) ≡ family_at table i
  pub later : (i : ℕ) → i < n → i < next_of table i
  pub kin : (i : ℕ) → i < n → next_of table i < n → family_at table (next_of table i) ≡ family_at table i
  pub none : (i k : ℕ) → i < n → i < k → k < next_of table i → k < n → family_at table k ≡ family_at table i → ⊥

-- what a round asks: a checked presentation, and the links of its families
pub record Grouped (text table : List ℕ) (n : ℕ) : Type 0 where
  pub checked : Checked text table n
  pub linked : Linked table n

-- relation word i of such a presentation
pub record GroupedWord (text table : List ℕ) (n i : ℕ) : Type 0 where
  pub grouped : Grouped text table n
  pub there : i < n

-- a checked presentation with families in arrays, in a text whose places are small: 65536 is no limit of the papers and only keeps sums in range
pub record Ready (text table : List ℕ) (n : ℕ) : Type 0 where
  pub grouped : Grouped text table n
  pub text_short : length text ≤ 65536
