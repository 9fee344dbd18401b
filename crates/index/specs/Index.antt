-- Which relation word's X and Y stand at a place of a word (document 003: relation prefixes).
use Rattle.std.specs.Prelude.{ℕ, List, length, drop}
use Rattle.words.specs.Search.{least}
use Rattle.words.specs.Words.{Word, is_prefix}
use Rattle.overlap.specs.Cuts.{xy_of}

-- the relation word whose X and Y stand in w at place q, or the number of relation words
unfoldable pub relation_prefix_at : List Word → Word → ℕ → ℕ
relation_prefix_at B w q = least (length B) (λ j. is_prefix (xy_of B j) (drop q w))
