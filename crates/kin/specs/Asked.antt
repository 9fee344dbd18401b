-- What is asked of a family's members: a relation word and the links of its family, and a place of the given word behind it.
use Rattle.std.specs.Prelude.{ℕ, ◌≤◌, ◌<◌, Bool, true, false, cond, ◌&&◌, not, List, ◌≡◌, eqb, leb, length, drop}
use Rattle.words.specs.Words.{Word}
use Rattle.overlap.specs.Cuts.{z_of}
use Rattle.congruence.specs.Rows.{active}
use Rattle.layout.specs.Places.{words_most, table_room}
use Rattle.layout.specs.Layout.{words_in}
use Rattle.layout.specs.Families.{family_at, next_of, Linked, GroupedWord}

-- relation word i, whose family's members are linked in the table
pub record LinkedWord (table : List ℕ) (n i : ℕ) : Type 0 where
  pub linked : Linked table n
  pub room : length table ≡ table_room
  pub few : n ≤ words_most
  pub there : i < n

-- a relation word and a place of the given word
pub record RestAsked (text table : List ℕ) (n : ℕ) (given : Word) (j k : ℕ) : Type 0 where
  pub word : GroupedWord text table n j
  pub within : k ≤ length given

-- a relation word and a place of the given word from which on that is not active for its Z
pub record IdleRest (text table : List ℕ) (n : ℕ) (given : Word) (i k : ℕ) : Type 0 where
  pub rest : RestAsked text table n given i k
  pub idle : active (words_in text table n) (z_of (words_in text table n) i) (drop k given) ≡ false

-- the family of relation word i has two members or i alone: behind the lowest stands no word, or none behind the second
unfoldable pub two_at_most : List ℕ → ℕ → ℕ → Bool
two_at_most table n i = cond (leb n (next_of table (family_at table i))) true (leb n (next_of table (next_of table (family_at table i))))

-- relation word j is not i, and s is active for its Z
unfoldable pub active_other : List Word → ℕ → Word → ℕ → Bool
active_other B i s j = not (eqb i j) && active B (z_of B j) s
