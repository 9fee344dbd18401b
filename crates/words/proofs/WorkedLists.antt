-- The values that were worked out by hand hold of the definitions, by computing them.
use mathlib.Core.Path.{refl}
use Rattle.words.specs.Letters.{first_unknown}
use Rattle.words.specs.Writing.{written}
use Rattle.words.specs.WorkedLists.{ListsHold}

pub lists_hold : ListsHold
unfolding first_unknown written
lists_hold = record { unknown = refl; known = refl; none = refl; inside = refl; start = refl }
