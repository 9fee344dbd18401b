-- What is read at the beginning of a word: an X and Y that are no clean relation prefix.
use Rattle.std.specs.Prelude.{ℕ, ◌+◌, Bool, List}
use Rattle.words.specs.Words.{Word}
use Rattle.overlap.specs.Cuts.{xlen, xylen}
use Rattle.congruence.specs.Rows.{has_relation_prefix_between}

-- where X and Y of relation word i begin w, this says that they are no clean relation prefix
unfoldable pub unclean_prefix : List Word → ℕ → Word → Bool
unclean_prefix B i w = has_relation_prefix_between B w (xlen B i + 1) (xylen B i)
