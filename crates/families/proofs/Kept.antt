-- Tables in which only some cells have changed.
use Prim.Native.Nat.{ℕ, ◌≤◌, ◌<◌}
use mathlib.Core.List.{List}
use mathlib.Core.Path.{refl, ◌∙◌}
use native.Mathlib.Omega.{arith}
use lib.ListN.{set, length-set}
use lib.Seq.{get_or-set_other}
use Rattle.families.specs.Joining.{KeptOutside}

-- nothing has changed
pub kept_refl : (from to : ℕ) (t : List ℕ) → KeptOutside from to t t
kept_refl from to t = record { long = refl; before = λ k h. refl; behind = λ k h. refl }

-- one change after another
pub kept_trans : {from to : ℕ} {t u v : List ℕ} → KeptOutside from to t u → KeptOutside from to u v → KeptOutside from to t v
kept_trans a b =
    record { long = b.long ∙ a.long; before = λ k h. b.before k h ∙ a.before k h; behind = λ k h. b.behind k h ∙ a.behind k h }

-- a cell between the two has changed too
pub kept_set : {from to : ℕ} {t u : List ℕ} (p v : ℕ) → KeptOutside from to t u → from ≤ p → p < to → KeptOutside from to t (set u p v)
kept_set {from} {to} {t} {u} p v g h l =
    record {
      long = length-set u p v ∙ g.long;
      before = λ k b. get_or-set_other u p k v 0 (λ e. omega (arith, b, h, e)) ∙ g.before k b;
      behind = λ k b. get_or-set_other u p k v 0 (λ e. omega (arith, b, l, e)) ∙ g.behind k b;
    }

-- what keeps more keeps less
pub kept_less : {from to from' to' : ℕ} {t u : List ℕ} → KeptOutside from to t u → from' ≤ from → to ≤ to' → KeptOutside from' to' t u
kept_less g h l = record { long = g.long; before = λ k b. g.before k (omega (arith, b, h)); behind = λ k b. g.behind k (omega (arith, b, l)) }
