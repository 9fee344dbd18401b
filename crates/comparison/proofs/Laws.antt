-- A law for each way that the functions of a comparison can go.
use Prim.Native.Nat.{ℕ, zero, suc, ◌+◌, ◌-◌, ◌<◌, ◌≤◌}
use mathlib.Core.Bool.{Bool, true, false}
use mathlib.Core.List.{List, []}
use mathlib.Core.Path.{◌≡◌, refl, sym, ap, ◌∙◌, subst}
use native.Mathlib.Omega.{arith}
use borrow.Author.Rules.{rules}
use lib.ListN.{length, take}
use Rattle.std.specs.Prelude.{Result, Ok, Err}
use Rattle.words.specs.Words.{Word}
use Rattle.overlap.proofs.Facts.{rigid_of_c4}
use Rattle.congruence.specs.Rows.{Next, round}
use Rattle.congruence.specs.Rows.Next.{end, go}
use Rattle.congruence.specs.Rounds.{answer_from, compare_under}
use Rattle.congruence.proofs.ShapeNoPrefix.{no_prefix_nil}
use Rattle.layout.specs.Layout.{words_in}
use Rattle.layout.specs.Families.{family_by}
use Rattle.refusals.specs.declared.Refusal.{Refusal}
use Rattle.refusals.specs.declared.Refusal.TheVariants.{Spent}
use Rattle.given.specs.Given.{Widened}
use Rattle.asked.specs.Given.{given_of, pair_of}
use Rattle.given.proofs.Laws.{fine_short, fine_both}
use Rattle.limits.specs.Limits.{compared_most}
use Rattle.moves.specs.declared.State.{State}
use Rattle.asked.specs.declared.Round.{Round}
use Rattle.asked.specs.declared.Round.TheVariants as Rounds
use Rattle.moves.specs.State.{placed_word, placed_mark, Fitting, StateReady, MoveFits, RoundMade}
use Rattle.comparison.specs.declared.Progress.{Progress}
use Rattle.comparison.specs.declared.Progress.TheVariants.{Ended, Paused}
use Rattle.asked.specs.declared.Comparison.{Comparison}
use Rattle.asked.specs.declared.Comparison.TheVariants.{Same, Different}
use Rattle.comparison.specs.Rounds.{MadeRounds, ended, paused, rounds_from, answered, rounds_of, Progressed}
use Rattle.comparison.specs.Widening.{ReadyToWiden, Widenable}
use Rattle.asked.specs.Comparing.{answer_of, comparison_of}

-- some rounds from a state
module _ (text table : List ℕ) (n : ℕ) (first second : Word) where
  -- the rounds from the words of a state, where some are done
  abbrev pub state_rounds : ℕ → ℕ → State → MadeRounds
  state_rounds left done s = rounds_from (words_in text table n) (family_by table n) left done (placed_word text first s.u) (placed_word text second s.v) (placed_mark text s.mark)

-- `done` rounds are made, and the rest from s gives what the rounds from the start give
pub record Going (text table : List ℕ) (n : ℕ) (first second : Word) (start : State) (budget : ℕ) (s : State) (done : ℕ) : Type 0 where
  pub poised : StateReady text table n first second s
  pub allowed : done ≤ budget
  pub same : state_rounds text table n first second budget 0 start ≡ state_rounds text table n first second (budget - done) done s

pub going_start : (text table : List ℕ) (n : ℕ) (first second : Word) (s : State) (budget : ℕ) → StateReady text table n first second s
    → Going text table n first second s budget s 0
going_start text table n first second s budget p =
    let e : budget - 0 ≡ budget = omega arith in
    record { poised = p; allowed = omega arith; same = rw e }

module _ (text table : List ℕ) (n : ℕ) (first second : Word) (start : State) (budget : ℕ) (s : State) (done : ℕ) (g : Going text table n first second start budget s done)
    (r : Round State) (f : RoundMade text table n first second s r) where
  -- whatever is left, an end ends it
  end_of : (left : ℕ) (b : Bool) → r ≡ Rounds.End b → ended b done ≡ state_rounds text table n first second left done s
  unfolding rounds_from
  end_of zero b e = let q = rw e at f.same in rw (← q)
  end_of (suc left) b e = let q = rw e at f.same in rw (← q)

  pub going_end : (b : Bool) → r ≡ Rounds.End b → Progressed text table n first second start budget (Ended b done)
  going_end b e = record { same = end_of (budget - done) b e ∙ sym g.same; stands = tt }

  module _ (t : State) (e : r ≡ Rounds.Next t) where
    due : go (placed_word text first t.u) (placed_word text second t.v) (placed_mark text t.mark) ≡ round (words_in text table n) (family_by table n) (placed_word text first s.u) (placed_word text second s.v) (placed_mark text s.mark)
    due = rw e at f.same

    paused_here : paused (placed_word text first s.u) (placed_word text second s.v) (placed_mark text s.mark) done ≡ state_rounds text table n first second 0 done s
    unfolding rounds_from
    paused_here = rw (← due)

    one_more : (left : ℕ) → state_rounds text table n first second (suc left) done s ≡ state_rounds text table n first second left (done + 1) t
    unfolding rounds_from
    one_more left = rw (← due)

    pub going_paused : budget ≤ done → Progressed text table n first second start budget (Paused s done)
    going_paused h =
        let z : budget - done ≡ 0 = omega arith in
        record { same = paused_here ∙ sym (rw z at g.same); stands = g.poised.standing }

    pub going_more : done < budget → Going text table n first second start budget t (done + 1)
    going_more h =
        let z : budget - done ≡ suc (budget - (done + 1)) = omega arith in
        record {
          poised = record { fitting = g.poised.fitting; standing = subst (MoveFits text (words_in text table n) first second) e f.stands };
          allowed = omega arith;
          same = (rw z at g.same) ∙ one_more (budget - (done + 1));
        }

pub ruleset goings = (going_start, going_end, going_paused, going_more, rules)

-- the rows' answer for two words, from the start
pub whole_poised : (text table : List ℕ) (n : ℕ) (u v : Word) → Fitting text table n u v
    → StateReady text table n u v (record { u = record { at = 0; to = 0; from = 0 }; v = record { at = 0; to = 0; from = 0 }; mark = record { at = 0; to = 0 } })
whole_poised text table n u v f =
    let q = no_prefix_nil (words_in text table n) (rigid_of_c4 (words_in text table n) f.ready.grouped.checked.accepted) in
    record {
      fitting = f;
      standing = record {
        u = record { up = omega arith; inside = omega arith; short = omega arith; within = omega arith; no_prefix = q };
        v = record { up = omega arith; inside = omega arith; short = omega arith; within = omega arith; no_prefix = q };
        mark = record { up = omega arith; inside = omega arith; short = omega arith };
      };
    }

-- rounds that are not at their end are spent
pub answered_rounds : (B : List Word) (family : ℕ → ℕ) (left done : ℕ) (u v p : Word) → answered (rounds_from B family left done u v p) ≡ answer_from B family left done u v p
unfolding rounds_from answer_from
answered_rounds B family zero done u v p = go (round B family u v p) refl
  where
    go : (x : Next) → round B family u v p ≡ x → answered (rounds_from B family zero done u v p) ≡ answer_from B family zero done u v p
    go (end b) e = rw e
    go (Next.go a b c) e = rw e
answered_rounds B family (suc left) done u v p = go (λ a b c. answered_rounds B family left (done + 1) a b c) (round B family u v p) refl
  where
    go : ((a b c : Word) → answered (rounds_from B family left (done + 1) a b c) ≡ answer_from B family left (done + 1) a b c) → (x : Next) → round B family u v p ≡ x
        → answered (rounds_from B family (suc left) done u v p) ≡ answer_from B family (suc left) done u v p
    go ih (end b) e = rw e
    go ih (Next.go a b c) e = rw e (ih a b c)

module _ (text table : List ℕ) (n : ℕ) (u v : Word) (allowance : ℕ) (r : Progress)
    (d : Progressed text table n u v (record { u = record { at = 0; to = 0; from = 0 }; v = record { at = 0; to = 0; from = 0 }; mark = record { at = 0; to = 0 } }) allowance r) where
  told : compare_under (words_in text table n) (family_by table n) allowance u v ≡ answered (rounds_of text u v r)
  told = sym (ap answered d.same ∙ answered_rounds (words_in text table n) (family_by table n) allowance 0 u v [])

  pub compared_same : (b : Bool) (k : ℕ) → r ≡ Ended b k → b ≡ true → Ok (Same k) ≡ answer_of (words_in text table n) (family_by table n) u v allowance
  unfolding answer_of
  compared_same b k e f = sym (rw (told, e, f))

  pub compared_different : (b : Bool) (k : ℕ) → r ≡ Ended b k → b ≡ false → Ok (Different k) ≡ answer_of (words_in text table n) (family_by table n) u v allowance
  unfolding answer_of
  compared_different b k e f = sym (rw (told, e, f))

  pub compared_spent : (s : State) (k : ℕ) → r ≡ Paused s k → Err (Spent k) ≡ answer_of (words_in text table n) (family_by table n) u v allowance
  unfolding answer_of
  compared_spent s k e = sym (rw (told, e))

pub ruleset comparisons = (whole_poised, compared_same, compared_different, compared_spent, rules)

-- words in bytes
module _ (text table : List ℕ) (n : ℕ) (u v : Word) (a c a' c' : List ℕ) (w : Widenable text table n u v a c) (x : Widened u a') (y : Widened v c') where
  pub widened_fitting : Fitting text table n (take (length u) a') (take (length v) c')
  widened_fitting = rw (x.same, y.same) w.fitting

  pub widened_answer : (allowance : ℕ) (r : Result Comparison Refusal) → r ≡ answer_of (words_in text table n) (family_by table n) (take (length u) a') (take (length v) c') allowance
      → r ≡ answer_of (words_in text table n) (family_by table n) u v allowance
  widened_answer allowance r e = rw (x.same, y.same) at e

pub ruleset widenings = (widened_fitting, widened_answer, rules)

-- given words
module _ (text table : List ℕ) (n letters : ℕ) (u v : Word) (allowance : ℕ) (g : Result (Unit {0}) Refusal) (e : g ≡ pair_of letters u v) where
  pub given_refused : (r : Refusal) → g ≡ Err r → Err r ≡ comparison_of letters (words_in text table n) (family_by table n) u v allowance
  unfolding comparison_of
  given_refused r f = rw (← e, f)

  pub given_compared : (x : Result Comparison Refusal) → g ≡ Ok tt → x ≡ answer_of (words_in text table n) (family_by table n) u v allowance → x ≡ comparison_of letters (words_in text table n) (family_by table n) u v allowance
  unfolding comparison_of
  given_compared x f h = rw (← e, f) h

pub given_widenable : (text table : List ℕ) (n letters : ℕ) (u v : Word) (a c : List ℕ) → ReadyToWiden text table n u v a c → Ok tt ≡ pair_of letters u v
    → Widenable text table n u v a c
unfolding pair_of
given_widenable text table n letters u v a c r e =
    let b = fine_both (given_of 0 compared_most letters u) (given_of 1 compared_most letters v) (sym e) in
    let short_u = fine_short 0 compared_most letters u b.0 in
    let short_v = fine_short 1 compared_most letters v b.1 in
    record {
      fitting = record { ready = r.ready; first_short = short_u; second_short = short_v };
      first_room = r.first_room short_u;
      second_room = r.second_room short_v;
    }

pub ruleset givens = (given_refused, given_compared, given_widenable, rules)
