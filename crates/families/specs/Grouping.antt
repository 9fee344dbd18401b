-- The families in the table and the links of their members (document 01, "Distinct words and families").
use Rattle.std.specs.Prelude.{ℕ, ◌*◌, ◌<◌, ◌≤◌, List, ◌≡◌, length, set}
use Rattle.words.specs.Families.{families_after}
use Rattle.layout.specs.Places.{words_most, family_from, next_from, next_cell, first_from, table_room}
use Rattle.layout.specs.Families.{sides_in, family_at, families_in, next_of, Linked}
use Rattle.families.specs.Joining.{KeptOutside, Countable}

-- the table in which relation word i leads where its family led, and its family to it
abbrev pub linked_at : List ℕ → ℕ → List ℕ
linked_at table i = set (set table (next_cell (family_at table i)) i) (next_cell i) (next_of table (family_at table i))

-- relation word i and its family have links, and the family's is a number of two bytes
pub record Linkable (table : List ℕ) (i : ℕ) : Type 0 where
  pub room : length table ≡ table_room
  pub word : i < words_most
  pub family : family_at table i ≤ i
  pub small : next_of table (family_at table i) < 65536

-- n words have the numbers of their families, each that of its lowest member, and links that lead to no word
pub record MembersUnlinked (table : List ℕ) (n : ℕ) : Type 0 where
  pub countable : Countable table n
  pub low : (i : ℕ) → i < n → family_at table i ≤ i
  pub lowest : (i : ℕ) → i < n → family_at table (family_at table i) ≡ family_at table i
  pub unlinked : (i : ℕ) → i < n → next_of table i ≡ n

-- each member leads to the next
pub record MembersLinked (table : List ℕ) (n : ℕ) (table' : List ℕ) : Type 0 where
  pub kept : KeptOutside next_from first_from table table'
  pub linked : Linked table' n

-- each word has the number of its family and leads to the next member
pub record GroupsMade (table : List ℕ) (n relations : ℕ) (table' : List ℕ) : Type 0 where
  pub kept : KeptOutside family_from first_from table table'
  pub families : families_in table' n ≡ families_after (sides_in table (2 * relations)) n relations
  pub linked : Linked table' n
