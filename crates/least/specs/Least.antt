-- The least congruent word (document 01: the least equal run), in words.
use Rattle.std.specs.Prelude.{ℕ, List, ◌++◌}
use Rattle.words.specs.Words.{Word}
use Rattle.congruence.specs.Congruence.{Congruent}
use Rattle.least.specs.Order.{AtMost}

-- w is the least word behind p for u: p w is joined to u, and w is before or equal to every word of which that holds. `Joined` is the congruence: of the
-- relations (`Congruent B`) in every promise, of families of any size in the proofs
pub record LeastBehind (Joined : Word → Word → Type 0) (rank : ℕ → ℕ) (p u w : Word) : Type 0 where
  pub joined : Joined (p ++ w) u
  pub first : (v : Word) → Joined (p ++ v) u → AtMost rank w v

-- w is the least word that is congruent to u
pub record LeastWord (B : List Word) (rank : ℕ → ℕ) (u w : Word) : Type 0 where
  pub congruent : Congruent B w u
  pub first : (v : Word) → Congruent B v u → AtMost rank w v
