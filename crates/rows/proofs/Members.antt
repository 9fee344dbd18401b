-- X and Y of one relation word at most begin a word: so that one is the only candidate for the member of a family that the word begins with. It is found by trying
-- relation words, or by the index.
use Prim.Native.Nat.{ℕ, ◌≤◌, ◌<◌}
use mathlib.Core.Bool.{true, false, true≢false, and-eq-true_iff}
use mathlib.Core.List.{List}
use mathlib.Core.Logic.{by_cases}
use mathlib.Core.Path.{◌≡◌, sym, ap, ◌∙◌}
use native.Mathlib.Decide.{dec_lt}
use native.Mathlib.Omega.{arith}
use borrow.Author.Tests.{eqb-true, eq-eqb}
use lib.ListN.{length}
use Rattle.words.specs.Search.{least}
use Rattle.words.specs.Words.{Word, is_prefix}
use Rattle.words.proofs.Tests.{false_of}
use Rattle.words.proofs.Searching.{least_first, least_is, least_none}
use Rattle.overlap.specs.Cuts.{xy_of}
use Rattle.congruence.specs.Rows.{begun, member_of}
use Rattle.congruence.proofs.Heads.{Facts}
use Rattle.congruence.proofs.RowTests.{one_prefix}
use Rattle.sites.proofs.CleanPrefixes.{prefix_here}

module _ (B : List Word) (R : Facts B) (family : ℕ → ℕ) (i : ℕ) (w : Word) where
  -- a member that begins the word is the one
  pub member_tried : (k : ℕ) → k < length B → family i ≡ family k → is_prefix (xy_of B k) w ≡ true → k ≡ member_of B family i w
  unfolding member_of begun
  member_tried k h e t = sym (least_is (length B) (begun B family i w) k h (record { none = below }) (simp and-eq-true_iff (eq-eqb (family i) (family k) e, t)))
    where
      below : (j : ℕ) → j < k → begun B family i w j ≡ false
      below j l = false_of (begun B family i w j) (λ b.
          let r = simp and-eq-true_iff at b in
          let q = one_prefix R w j k (omega (arith, h, l)) h r.1 t in
          absurd (omega (arith, q, l)))

  -- where no member begins it there is none
  pub member_untried : ((k : ℕ) → k < length B → family i ≡ family k → is_prefix (xy_of B k) w ≡ false) → length B ≡ member_of B family i w
  unfolding member_of begun
  member_untried none = sym (least_none (length B) (begun B family i w) (record {
    none = λ j l. false_of (begun B family i w j) (λ b.
        let r = simp and-eq-true_iff at b in
        true≢false (sym r.1 ∙ none j l (eqb-true (family i) (family j) r.0)));
  }))

module _ (B : List Word) (R : Facts B) (family : ℕ → ℕ) (i : ℕ) (w : Word) (k : ℕ) (f : k ≡ least (length B) (λ j. is_prefix (xy_of B j) w)) where
  -- only the one that begins the word can be the member
  begun_one : (j : ℕ) → j < length B → (k < length B → j ≡ k → family i ≡ family k → ⊥) → begun B family i w j ≡ false
  unfolding begun
  begun_one j h d = false_of (begun B family i w j) (λ t.
      let r = simp and-eq-true_iff at t in
      by_cases (dec_lt k (length B))
      (λ l. let e = one_prefix R w j k h l r.1 (prefix_here B R w k f l) in d l e (eqb-true (family i) (family j) r.0 ∙ ap family e))
      (λ l. true≢false (sym r.1 ∙ (least_first (length B) (λ j. is_prefix (xy_of B j) w)).none j (omega (arith, h, l, f)))))

  pub begun_none : length B ≤ k → length B ≡ member_of B family i w
  unfolding member_of
  begun_none h = sym (least_none (length B) (begun B family i w) (record { none = λ j l. begun_one j l (λ a. absurd (omega (arith, a, h))) }))

  pub begun_other : (family i ≡ family k → ⊥) → length B ≡ member_of B family i w
  unfolding member_of
  begun_other d = sym (least_none (length B) (begun B family i w) (record { none = λ j l. begun_one j l (λ a b c. d c) }))

  pub begun_here : k < length B → family i ≡ family k → k ≡ member_of B family i w
  unfolding member_of begun
  begun_here h e =
      sym (least_is (length B) (begun B family i w) k h (record { none = λ j l. begun_one j (omega (arith, h, l)) (λ a b c. absurd (omega (arith, b, l))) })
      (simp and-eq-true_iff (eq-eqb (family i) (family k) e, prefix_here B R w k f h)))
