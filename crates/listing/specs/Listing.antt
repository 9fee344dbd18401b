-- The making of the index: what has been listed when some letters, or some words of a letter, are done.
use Rattle.std.specs.Prelude.{ℕ, ◌<◌, List, ◌≡◌, length}
use Rattle.layout.specs.Places.{letters_bound, table_room}
use Rattle.layout.specs.Layout.{Laid, Indexed}
use Rattle.insertion.specs.Inserting.{SamePositions, Lists, Gathering}

-- n relation words are laid, and the table has room for their index
pub record Unlisted (text table : List ℕ) (n : ℕ) : Type 0 where
  pub laid : Laid text table n
  pub room : length table ≡ table_room

-- relation word k is next to be looked at for letter c
pub record NextWord (text table : List ℕ) (n c from j k : ℕ) : Type 0 where
  pub gathering : Gathering text table n c from j k
  pub known : k < n

-- the words of letter c are next
pub record NextLetter (text table : List ℕ) (n c from : ℕ) : Type 0 where
  pub lists : Lists text table n c from
  pub letter : c < letters_bound

-- all words are listed, and there are some at places j - 1 and j
pub record Neighbours (text table : List ℕ) (j : ℕ) : Type 0 where
  pub number : ℕ
  pub lists : Lists text table number letters_bound number
  pub some : 0 < j
  pub below : j < number

-- all words are listed
pub record AllListed (text table : List ℕ) (n : ℕ) (table' : List ℕ) : Type 0 where
  pub kept : SamePositions table table'
  pub lists : Lists text table' n letters_bound n

-- the index is made, and the positions of the words and of their cuts are kept
pub record IndexMade (text table : List ℕ) (n : ℕ) (table' : List ℕ) : Type 0 where
  pub kept : SamePositions table table'
  pub indexed : Indexed text table' n
