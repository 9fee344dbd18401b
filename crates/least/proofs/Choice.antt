-- The member whose XY comes first (`first_member`): it is marked, no marked member's XY comes before its own, and it is there wherever some member is marked.
use Prim.Native.Nat.{ℕ, zero, suc, ◌≤◌, ◌<◌}
use mathlib.Core.Bool.{Bool, true, false, ◌&&◌, not, true≢false, and-eq-true_iff}
use mathlib.Core.List.{List}
use mathlib.Core.Logic.{by_cases, ⊎_elim, inl, inr}
use mathlib.Core.Path.{◌≡◌, sym, ap, ◌∙◌, subst}
use native.Mathlib.Omega.{arith}
use native.Mathlib.Decide.{dec_lt}
use borrow.Author.Tests.{not-true}
use lib.ListN.{length}
use Rattle.words.specs.Search.{any_below, least}
use Rattle.words.specs.Words.{Word}
use Rattle.words.proofs.Tests.{true_or_false, false_of}
use Rattle.words.proofs.Searching.{any_found, any_none, none_of, least_passes, least_first}
use Rattle.overlap.specs.Cuts.{xy_of}
use Rattle.least.specs.Order.{Injective, Before, AtMost, before}
use Rattle.congruence.specs.Rows.{marked}
use Rattle.least.specs.Writing.{first_member}
use Rattle.least.proofs.Order.{before_of_test, before_irreflexive, at_most_unique, at_most_trans, at_most_of_not_before}

module _ {rank : ℕ → ℕ} (injective : Injective rank) where
  -- of the words whose numbers pass, one is before or equal to all
  pub first_of : (n : ℕ) (passes : ℕ → Bool) (f : ℕ → Word) (k : ℕ) → k < n → passes k ≡ true
      → (j : ℕ) × (j < n) × (passes j ≡ true) × ((l : ℕ) → l < n → passes l ≡ true → AtMost rank (f j) (f l))
  first_of zero passes f k h e = absurd (omega arith)
  first_of (suc n) passes f k h e = ⊎_elim (last_passes (λ k h e. first_of n passes f k h e)) (last_fails (λ k h e. first_of n passes f k h e)) (true_or_false (passes n))
    where
      last_fails : ((k : ℕ) → k < n → passes k ≡ true → (j : ℕ) × (j < n) × (passes j ≡ true) × ((l : ℕ) → l < n → passes l ≡ true → AtMost rank (f j) (f l))) → passes n ≡ false → (j : ℕ) × (j < suc n) × (passes j ≡ true) × ((l : ℕ) → l < suc n → passes l ≡ true → AtMost rank (f j) (f l))
      last_fails rest q =
          let below : (l : ℕ) → l < suc n → passes l ≡ true → l < n = λ l a b. by_cases (dec_lt l n) (λ c. c) (λ c. absurd (true≢false (sym b ∙ subst (λ (m : ℕ). passes m ≡ false) (omega arith) q))) in
          let r = rest k (below k h e) e in
          (r.0, omega (arith, r.1), r.2, λ l a b. r.3 l (below l a b) b)

      last_passes : ((k : ℕ) → k < n → passes k ≡ true → (j : ℕ) × (j < n) × (passes j ≡ true) × ((l : ℕ) → l < n → passes l ≡ true → AtMost rank (f j) (f l))) → passes n ≡ true → (j : ℕ) × (j < suc n) × (passes j ≡ true) × ((l : ℕ) → l < suc n → passes l ≡ true → AtMost rank (f j) (f l))
      last_passes rest q = ⊎_elim
          (λ a.
          let b = any_found n passes a in
          let r = rest b.0 b.1 b.2 in
          ⊎_elim
          (λ c. (
            n,
            omega arith,
            q,
            λ l x y. by_cases (dec_lt l n)
                (λ z. at_most_trans (inr (before_of_test rank (f n) (f r.0) c)) (r.3 l z y))
                (λ z. inl (ap f (omega arith))),
          ))
          (λ c. (
            r.0,
            omega (arith, r.1),
            r.2,
            λ l x y. by_cases (dec_lt l n)
                (λ z. r.3 l z y)
                (λ z. subst (λ (m : ℕ). AtMost rank (f r.0) (f m)) (omega arith) (at_most_of_not_before injective (f n) (f r.0) c)),
          ))
          (true_or_false (before rank (f n) (f r.0))))
          (λ a. (
            n,
            omega arith,
            q,
            λ l x y. by_cases (dec_lt l n)
                (λ z. absurd (true≢false (sym y ∙ none_of n passes a l z)))
                (λ z. inl (ap f (omega arith))),
          ))
          (true_or_false (any_below n passes))

  module _ (B : List Word) (fam : ℕ → ℕ) (i : ℕ) (p : Word) where
    -- a marked member whose XY comes before that of j
    abbrev earlier : ℕ → ℕ → Bool
    earlier j l = marked B fam i p l && before rank (xy_of B l) (xy_of B j)

    abbrev passing : ℕ → Bool
    passing j = marked B fam i p j && not (any_below (length B) (earlier j))

    -- the member that is found is marked, and none comes before it
    pub first_is_first : first_member B fam rank i p < length B
        → (marked B fam i p (first_member B fam rank i p) ≡ true)
        × ((l : ℕ) → l < length B → marked B fam i p l ≡ true → AtMost rank (xy_of B (first_member B fam rank i p)) (xy_of B l))
    unfolding first_member
    first_is_first h =
        let r = simp and-eq-true_iff at (least_passes (length B) passing h) in
        let none = none_of (length B) (earlier (least (length B) passing)) (not-true (any_below (length B) (earlier (least (length B) passing))) r.1) in
        (r.0, λ l a b. at_most_of_not_before injective (xy_of B l) (xy_of B (least (length B) passing)) (second (marked B fam i p l) _ b (none l a)))
      where
        second : (a b : Bool) → a ≡ true → (a && b) ≡ false → b ≡ false
        second true b e q = q
        second false b e q = absurd (true≢false (sym e))

    -- where none is found, no member is marked
    pub none_is_marked : length B ≤ first_member B fam rank i p → (l : ℕ) → l < length B → marked B fam i p l ≡ true → ⊥
    unfolding first_member
    none_is_marked h l a b =
        let r = first_of (length B) (marked B fam i p) (xy_of B) l a b in
        let fails : passing r.0 ≡ false = (least_first (length B) passing).none r.0 (omega (arith, r.1)) in
        let none : any_below (length B) (earlier r.0) ≡ false = any_none (length B) (earlier r.0) (λ m c. false_of (earlier r.0 m) (λ d.
        let x = simp and-eq-true_iff at d in
        let y = before_of_test rank (xy_of B m) (xy_of B r.0) x.1 in
        before_irreflexive (xy_of B r.0) (subst (λ (w : Word). Before rank w (xy_of B r.0)) (at_most_unique (inr y) (r.3 m c x.0)) y))) in
        let passes : passing r.0 ≡ true = simp and-eq-true_iff (r.2, ap not none) in
        true≢false (sym passes ∙ fails)
