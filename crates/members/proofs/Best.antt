-- The best member of a family so far, along its members: of those with the mark in their X, the one whose XY comes first.
use Prim.Native.Nat.{ℕ, ◌≤◌, ◌<◌}
use mathlib.Core.Bool.{true, false, and-eq-true_iff, true≢false}
use mathlib.Core.Logic.{by_cases, ◌⊎◌, inl, inr, ⊎_elim}
use mathlib.Core.List.{List}
use mathlib.Core.Path.{◌≡◌, sym, ◌∙◌}
use native.Mathlib.Omega.{arith}
use native.Mathlib.Decide.{dec_lt}
use borrow.Author.Tests.{eqb-true, eq-eqb, leb-true, le-leb}
use lib.Dec.{leb}
use lib.ListN.{length}
use Rattle.words.specs.Words.{Word, is_prefix}
use Rattle.words.proofs.Picks.{or_left, or_right}
use Rattle.words.proofs.Tests.{false_of, or_found}
use Rattle.overlap.specs.Cuts.{x_of, xy_of}
use Rattle.congruence.specs.Rows.{marked}
use Rattle.congruence.proofs.Heads.{Facts}
use Rattle.least.specs.Order.{Before, before, house_rank}
use Rattle.least.specs.Writing.{first_member}
use Rattle.least.proofs.Order.{before_of_test, test_of_before, before_irreflexive, before_trans}
use Rattle.layout.specs.Families.{family_at, family_by, next_of, Linked}
use Rattle.layout.proofs.Cells.{family_at_lem}
use Rattle.layout.proofs.Links.{Along, along_start, along_next}
use Rattle.members.specs.Members.{beats}
use Rattle.members.proofs.Members.{member_first, member_none}

module _ (B : List Word) (p : Word) where
  -- j is better than the best so far: it has the mark in its X, and there is none yet or it comes before it
  better_in_x : (best j : ℕ) → beats B p best j ≡ true → is_prefix p (x_of B j) ≡ true
  unfolding beats
  better_in_x best j e = (simp and-eq-true_iff at e).0

  better_how : (best j : ℕ) → beats B p best j ≡ true → (length B ≤ best) ⊎ Before house_rank (xy_of B j) (xy_of B best)
  unfolding beats
  better_how best j e = ⊎_elim
      (λ a. inl (leb-true (length B) best a))
      (λ a. inr (before_of_test house_rank (xy_of B j) (xy_of B best) a))
      (or_found (leb (length B) best) (before house_rank (xy_of B j) (xy_of B best)) (simp and-eq-true_iff at e).1)

  better_none : (best j : ℕ) → is_prefix p (x_of B j) ≡ true → length B ≤ best → beats B p best j ≡ true
  unfolding beats
  better_none best j x l = simp and-eq-true_iff (x, or_left (leb (length B) best) (before house_rank (xy_of B j) (xy_of B best)) (le-leb (length B) best l))

  better_before : (best j : ℕ) → is_prefix p (x_of B j) ≡ true → Before house_rank (xy_of B j) (xy_of B best) → beats B p best j ≡ true
  unfolding beats
  better_before best j x b = simp and-eq-true_iff (x, or_right (leb (length B) best) (before house_rank (xy_of B j) (xy_of B best)) (test_of_before b))

  -- no member is better than itself
  not_itself : (j : ℕ) → j < length B → beats B p j j ≡ false
  not_itself j l = false_of (beats B p j j) (λ e. ⊎_elim (λ a. omega (arith, a, l)) (λ a. before_irreflexive (xy_of B j) a) (better_how j j e))

  -- who is no better than the best so far is no better than one that is
  worse : (best j k : ℕ) → j < length B → beats B p best j ≡ true → beats B p best k ≡ false → beats B p j k ≡ false
  worse best j k l e n = false_of (beats B p j k) (λ f.
      let x = better_in_x j k f in
      ⊎_elim
      (λ a. omega (arith, a, l))
      (λ a. ⊎_elim
      (λ b. true≢false (sym (better_none best k x b) ∙ n))
      (λ b. true≢false (sym (better_before best k x (before_trans a b)) ∙ n))
      (better_how best j e))
      (better_how j k f))

-- what a loop along the members of i's family knows at j: the best one before it, or n, has the mark in its X, and no member before j is better
pub record BestSoFar (B : List Word) (table : List ℕ) (n i : ℕ) (p : Word) (best j : ℕ) : Type 0 where
  pub within : best ≤ n
  pub member : best < n → marked B (family_by table n) i p best ≡ true
  pub along : Along table n i (beats B p best) j

module _ (B : List Word) (table : List ℕ) (n : ℕ) (long : length B ≡ n) (l : Linked table n) (i : ℕ) (h : i < n) (p : Word) where
  -- it begins with none
  pub none_yet : BestSoFar B table n i p n (family_at table i)
  none_yet = record { within = omega arith; member = λ a. absurd (omega (arith, a)); along = along_start table n l i h (beats B p n) }

  module _ (best j : ℕ) (u : BestSoFar B table n i p best j) where
    -- j is no better
    pub best_kept : j < n → beats B p best j ≡ false → BestSoFar B table n i p best (next_of table j)
    best_kept k e = record { within = u.within; member = u.member; along = along_next table n l i h (beats B p best) j k u.along e }

    -- j is better
    pub best_new : j < n → beats B p best j ≡ true → BestSoFar B table n i p j (next_of table j)
    unfolding marked
    best_new k e =
        let b : j < length B = omega (arith, k, long) in
        let f = family_at_lem table n i h ∙ sym (u.along.kin k) ∙ sym (family_at_lem table n j k) in
        let a : Along table n i (beats B p j) j = record { none = λ c d m q. worse B p best j c b e (u.along.none c d m q); kin = u.along.kin } in
        record {
          within = omega (arith, k);
          member = λ _. simp and-eq-true_iff (eq-eqb (family_by table n i) (family_by table n j) f, better_in_x B p best j e);
          along = along_next table n l i h (beats B p j) j k a (not_itself B p j b);
        }

    -- behind the last member, none of those with the mark in their X is better
    none_better : n ≤ j → (k : ℕ) → k < length B → marked B (family_by table n) i p k ≡ true → (is_prefix p (x_of B k) ≡ true) × (beats B p best k ≡ false)
    unfolding marked
    none_better a k b t =
        let r = simp and-eq-true_iff at t in
        let c : k < n = omega (arith, b, long) in
        let f = eqb-true (family_by table n i) (family_by table n k) r.0 in
        (r.1, u.along.none k (omega (arith, c, a)) c (sym (family_at_lem table n k c) ∙ sym f ∙ family_at_lem table n i h))

    -- and the best is the first
    pub best_is_first : Facts B → n ≤ j → best ≡ first_member B (family_by table n) house_rank i p
    best_is_first R a = by_cases (dec_lt best n)
        (λ b. sym (member_first B (family_by table n) i p R best (omega (arith, b, long)) (u.member b) (λ k c t.
        let r = none_better a k c t in
        false_of (before house_rank (xy_of B k) (xy_of B best)) (λ z.
        true≢false (sym (better_before B p best k r.0 (before_of_test house_rank (xy_of B k) (xy_of B best) z)) ∙ r.1)))))
        (λ b.
        let w = u.within in
        let e : best ≡ length B = omega (arith, b, w, long) in
        e ∙ sym (member_none B (family_by table n) i p (λ k c. false_of (marked B (family_by table n) i p k) (λ t.
        let r = none_better a k c t in
        true≢false (sym (better_none B p best k r.0 (omega (arith, e))) ∙ r.1)))))
