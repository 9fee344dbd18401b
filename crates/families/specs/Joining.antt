-- The numbers of families in the table: each word is a family at first, and each relation makes one of two (document 01, "Distinct words and families").
use Rattle.std.specs.Prelude.{ℕ, ◌+◌, ◌*◌, ◌<◌, ◌≤◌, cond, List, ◌≡◌, eqb, length, get_or, set}
use Rattle.words.specs.Families.{merged, merged_of, families_after}
use Rattle.limits.specs.Limits.{relations_most}
use Rattle.layout.specs.Places.{words_most, family_from, family_cell, next_from, first_from, table_room}
use Rattle.layout.specs.Families.{side_word_of, sides_in, family_at, families_in, next_of}

-- another table, in which nothing has changed but cells from one on and below another
pub record KeptOutside (from to : ℕ) (table table' : List ℕ) : Type 0 where
  pub long : length table' ≡ length table
  pub before : (k : ℕ) → k < from → get_or table' k 0 ≡ get_or table k 0
  pub behind : (k : ℕ) → to ≤ k → get_or table' k 0 ≡ get_or table k 0

-- a table with room for n relation words
pub record Countable (table : List ℕ) (n : ℕ) : Type 0 where
  pub few : n ≤ words_most
  pub room : length table ≡ table_room

-- each of n words has its own number, and a link that leads to no word
pub record Alone (table : List ℕ) (n : ℕ) (table' : List ℕ) : Type 0 where
  pub kept : KeptOutside family_from first_from table table'
  pub own : (i : ℕ) → i < n → family_at table' i ≡ i
  pub unlinked : (i : ℕ) → i < n → next_of table' i ≡ n

-- the table in which relation word i has gone from family `high`, if it is its own, to family `low`
abbrev pub renamed_at : List ℕ → ℕ → ℕ → ℕ → List ℕ
renamed_at table i low high = set table (family_cell i) (cond (eqb (family_at table i) high) low (family_at table i))

-- relation word i has a cell, and `low` is a number of two bytes
pub record Nameable (table : List ℕ) (i low : ℕ) : Type 0 where
  pub inside : family_cell i < length table
  pub small : low < 65536

-- two families of n words, of which the first has the smaller number; no number is above its place
pub record Renamable (table : List ℕ) (n low high : ℕ) : Type 0 where
  pub countable : Countable table n
  pub order : low < high
  pub known : high < n
  pub places : (i : ℕ) → i < n → family_at table i ≤ i

-- they are one
pub record Renamed (table : List ℕ) (n low high : ℕ) (table' : List ℕ) : Type 0 where
  pub kept : KeptOutside family_from next_from table table'
  pub families : families_in table' n ≡ merged low high (families_in table n)

-- side s has a cell, and so has the family of its word
pub record SideKnown (table : List ℕ) (s : ℕ) : Type 0 where
  pub room : length table ≡ table_room
  pub side : s < words_most
  pub word : side_word_of table s < words_most

-- the words of n relation words that relation r joins
pub record Joinable (table : List ℕ) (n r : ℕ) : Type 0 where
  pub countable : Countable table n
  pub relation : r < relations_most
  pub left : side_word_of table (2 * r) < n
  pub right : side_word_of table (2 * r + 1) < n
  pub places : (i : ℕ) → i < n → family_at table i ≤ i

-- their families are one
pub record Joined (table : List ℕ) (n r : ℕ) (table' : List ℕ) : Type 0 where
  pub kept : KeptOutside family_from next_from table table'
  pub families : families_in table' n ≡ merged_of (families_in table n) (side_word_of table (2 * r)) (side_word_of table (2 * r + 1))

-- n words, and the relations between them
pub record Groupable (table : List ℕ) (n relations : ℕ) : Type 0 where
  pub countable : Countable table n
  pub few : relations ≤ relations_most
  pub known : (s : ℕ) → s < 2 * relations → side_word_of table s < n

-- each of them is a family of its own
pub record Separate (table : List ℕ) (n relations : ℕ) : Type 0 where
  pub groupable : Groupable table n relations
  pub own : (i : ℕ) → i < n → family_at table i ≡ i

-- each word has the number of its family
pub record AllJoined (table : List ℕ) (n relations : ℕ) (table' : List ℕ) : Type 0 where
  pub kept : KeptOutside family_from next_from table table'
  pub families : families_in table' n ≡ families_after (sides_in table (2 * relations)) n relations
