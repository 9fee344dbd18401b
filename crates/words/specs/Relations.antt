-- Relations and their relation words (document 01: rules and their sides).
use Rattle.std.specs.Prelude.{ℕ, ◌+◌, ◌*◌, ◌-◌, ◌%◌, List, [], ◌∷◌}
use Rattle.words.specs.Words.{Word}

-- a relation (document 01: a rule), with its left and its right side
pub record Relation : Type 0 where
  pub left : Word
  pub right : Word

-- the relation words (document 01: sides): 0 and 1 of the first relation, 2 and 3 of the second, and so on
unfoldable pub relation_words : List Relation → List Word
relation_words [] = []
relation_words (r ∷ rs) = r.left ∷ r.right ∷ relation_words rs

-- the number of the other relation word of the same relation
abbrev pub other : ℕ → ℕ
other i = i + 1 - 2 * (i % 2)
