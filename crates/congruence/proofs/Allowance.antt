-- The answer under an allowance, by the number of rounds that the rows make with no allowance to stop them (document 01, "Exchanges and rounds").
use Prim.Native.Nat.{ℕ, zero, suc, ◌+◌, ◌≤◌, ◌<◌}
use mathlib.Core.Bool.{Bool, true, false, true≢false}
use mathlib.Core.Logic.{by_cases, ◌↔◌}
use mathlib.Core.List.{List, []}
use mathlib.Core.Path.{◌≡◌, refl, sym, ap, ◌∙◌}
use native.Mathlib.Omega.{arith}
use native.Mathlib.Decide.{dec_lt}
use Rattle.words.specs.Words.{Word}
use Rattle.congruence.specs.Rounds.{Rounds, CompareAnswer, ending, answer_from, compare_under}
use Rattle.congruence.specs.Rounds.Rounds.{ended, goes}
use Rattle.congruence.specs.Rounds.CompareAnswer.{same, different, spent}

-- where the allowance is at least the number of rounds, the rows' end is the answer, with all rounds counted
answer_late : (B : List Word) (family : ℕ → ℕ) (left m : ℕ) {u v p : Word} {n : ℕ} {b : Bool} → Rounds B family u v p n b → n ≤ left → answer_from B family left m u v p ≡ ending b (m + n)
unfolding answer_from
answer_late B family zero m {b = b} (ended e) h = rw e (ap (ending b) (omega arith))
answer_late B family (suc left) m {b = b} (ended e) h = rw e (ap (ending b) (omega arith))
answer_late B family zero m (goes e r) h = absurd (omega arith)
answer_late B family (suc left) m {b = b} (goes e r) h = rw e (answer_late B family left (m + 1) r (omega arith) ∙ ap (ending b) (omega arith))

-- where it is less, the answer is 'spent', with the allowance
answer_early : (B : List Word) (family : ℕ → ℕ) (left m : ℕ) {u v p : Word} {n : ℕ} {b : Bool} → Rounds B family u v p n b → left < n → answer_from B family left m u v p ≡ spent (m + left)
unfolding answer_from
answer_early B family zero m (ended e) h = absurd (omega arith)
answer_early B family (suc left) m (ended e) h = absurd (omega arith)
answer_early B family zero m (goes e r) h = rw e (ap spent (omega arith))
answer_early B family (suc left) m (goes e r) h = rw e (answer_early B family left (m + 1) r (omega arith) ∙ ap spent (omega arith))

-- the parts of an answer
abbrev count_of : CompareAnswer → ℕ
count_of (same n) = n
count_of (different n) = n
count_of (spent n) = n

abbrev is_same : CompareAnswer → Bool
is_same (same n) = true
is_same (different n) = false
is_same (spent n) = false

abbrev is_spent : CompareAnswer → Bool
is_spent (same n) = false
is_spent (different n) = false
is_spent (spent n) = true

-- an end tells its word and its count
pub inner_parts : (b d : Bool) (n m : ℕ) → ending b n ≡ ending d m → (b ≡ d) × (n ≡ m)
inner_parts true true n m e = (refl, ap count_of e)
inner_parts true false n m e = absurd (true≢false (ap is_same e))
inner_parts false true n m e = absurd (true≢false (sym (ap is_same e)))
inner_parts false false n m e = (refl, ap count_of e)

-- an end is not 'spent'
pub inner_not_spent : (b : Bool) (n m : ℕ) → ending b n ≡ spent m → ⊥
inner_not_spent true n m e = true≢false (sym (ap is_spent e))
inner_not_spent false n m e = true≢false (sym (ap is_spent e))

module _ {B : List Word} {family : ℕ → ℕ} {u v : Word} {n : ℕ} {b : Bool} (r : Rounds B family u v [] n b) (allowance : ℕ) where
  -- where the allowance suffices, the answer is the end with the count
  pub ended_of_enough : n ≤ allowance → compare_under B family allowance u v ≡ ending b n
  ended_of_enough h = answer_late B family allowance 0 r h ∙ ap (ending b) (omega arith)

  -- where it does not, the answer is 'spent'
  pub spent_of_less : allowance < n → compare_under B family allowance u v ≡ spent allowance
  spent_of_less h = answer_early B family allowance 0 r h ∙ ap spent (omega arith)

  -- an end is told only where the allowance suffices
  pub enough_of_ended : (d : Bool) (m : ℕ) → compare_under B family allowance u v ≡ ending d m → (d ≡ b) × (m ≡ n) × (n ≤ allowance)
  enough_of_ended d m e = by_cases (dec_lt allowance n)
      (λ h. absurd (inner_not_spent d m allowance (sym e ∙ spent_of_less h)))
      (λ h. let q = inner_parts d b m n (sym e ∙ ended_of_enough (omega arith)) in (q.0, q.1, omega arith))

  -- 'spent' is told only where it does not
  pub less_of_spent : (m : ℕ) → compare_under B family allowance u v ≡ spent m → (m ≡ allowance) × (allowance < n)
  less_of_spent m e = by_cases (dec_lt allowance n)
      (λ h. (ap count_of (sym e ∙ spent_of_less h), h))
      (λ h. absurd (inner_not_spent b n m (sym (ended_of_enough (omega arith)) ∙ e)))

  pub ended_iff : (compare_under B family allowance u v ≡ ending b n) ↔ (n ≤ allowance)
  ended_iff = (λ e. (enough_of_ended b n e).2, ended_of_enough)

  pub spent_iff : (compare_under B family allowance u v ≡ spent allowance) ↔ (allowance < n)
  spent_iff = (λ e. (less_of_spent allowance e).1, spent_of_less)
