-- Whether a relation word begins with a letter, by the index.
use Rattle.std.specs.Prelude.{ℕ, ◌+◌, Bool, true, cond, List, eqb, leb}
use Rattle.layout.specs.Places.{letters_bound}
use Rattle.layout.specs.Layout.{first_of}

-- the list of the relation words that begin with the letter c is empty
unfoldable pub empty_list : List ℕ → ℕ → Bool
empty_list table c = cond (leb letters_bound c) true (eqb (first_of table c) (first_of table (c + 1)))
