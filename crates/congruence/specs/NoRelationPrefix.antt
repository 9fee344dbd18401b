-- Words in which no X and Y stands: what a comparison holds before the rest of a given word is such a word.
use Rattle.std.specs.Prelude.{ℕ, false, List, ◌≡◌}
use Rattle.words.specs.Words.{Word}
use Rattle.congruence.specs.Rows.{has_relation_prefix_at}

-- X and Y of no relation word stand anywhere in z
pub record NoRelationPrefix (B : List Word) (z : Word) : Type 0 where
  pub nowhere : (q : ℕ) → has_relation_prefix_at B z q ≡ false
