-- Row 2 where no relation word begins with the first letter of u: it is the first that fits, and its plan is the round.
use Prim.Native.Nat.{ℕ}
use mathlib.Core.Bool.{false}
use mathlib.Core.List.{List}
use mathlib.Core.Path.{◌≡◌, refl, sym}
use native.Mathlib.Omega.{arith}
use borrow.Author.Tests.{le-leb}
use lib.ListN.{length, get_or}
use Rattle.words.specs.Words.{Word, is_empty}
use Rattle.overlap.proofs.Facts.{rigid_of_c4}
use Rattle.congruence.specs.Rows.{fitting, first_row}
use Rattle.congruence.proofs.Drops.{BeginsNone, no_clean_prefix}
use Rattle.layout.specs.Layout.{words_in, Checked}
use Rattle.layout.specs.Families.{family_by}
use Rattle.sites.specs.declared.Site.{Site}
use Rattle.rows.specs.declared.Found.{Found}
use Rattle.plans.specs.Plans.{PlansRound}
use Rattle.plans.specs.RowPlans.{plan2}
use Rattle.plans.proofs.Decisions.{by2}

pub first_row_two : (text table : List ℕ) (n : ℕ) → Checked text table n → (u v p : Word) → is_empty u ≡ false → is_empty v ≡ false
    → BeginsNone (words_in text table n) (get_or u 0 0) → first_row (words_in text table n) (family_by table n) u v p ≡ 2
unfolding first_row fitting
first_row_two text table n c u v p a b none =
    let B = words_in text table n in
    rw (no_clean_prefix B (rigid_of_c4 B c.accepted) u none, a, b, le-leb (length B) (length B) (omega arith))

-- a row of which no relation word is told
second : Found
second =
    let nowhere : Site = record { start = 0; middle = 0; tail = 0; stop = 0 } in
    record { row = 2; word = 0; own = nowhere; member = nowhere }

pub drop_plan : (text table : List ℕ) (n : ℕ) (u v p : Word) → first_row (words_in text table n) (family_by table n) u v p ≡ 2
    → PlansRound text table n u v p (plan2 u v p)
unfolding second
drop_plan text table n u v p e =
    by2 text table n u v p second
    (record { number = sym e; word = λ h. absurd (omega arith); own = λ h. absurd (omega arith); member = λ h. absurd (omega arith) }) (plan2 u v p) refl refl
