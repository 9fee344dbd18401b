-- What a loop along the members of a family knows.
use Prim.Native.Nat.{ℕ, ◌≤◌, ◌<◌}
use mathlib.Core.Bool.{Bool, true, false, ◌&&◌, and-eq-true_iff, true≢false}
use mathlib.Core.List.{List}
use mathlib.Core.Path.{◌≡◌, sym, ap, ◌∙◌}
use mathlib.Core.Logic.{by_cases}
use native.Mathlib.Omega.{arith}
use native.Mathlib.Decide.{dec_lt, ℕ_discrete}
use borrow.Author.Tests.{eqb-true, eq-eqb}
use lib.Dec.{eqb}
use Rattle.words.specs.Search.{any_below, least}
use Rattle.words.proofs.Tests.{false_of}
use Rattle.words.proofs.Searching.{NoneBelow, any_of, any_none, least_is, least_none}
use Rattle.layout.specs.Families.{family_at, family_by, next_of, Linked}
use Rattle.layout.proofs.Cells.{family_at_lem}

-- the test for a member of i's family that passes another test
abbrev pub kin_test : List ℕ → ℕ → ℕ → (ℕ → Bool) → ℕ → Bool
kin_test table n i test j = eqb (family_by table n i) (family_by table n j) && test j

-- what a loop along the members of i's family knows at place j: no member before it passes, and it is a member or behind all words
pub record Along (table : List ℕ) (n i : ℕ) (test : ℕ → Bool) (j : ℕ) : Type 0 where
  pub none : (k : ℕ) → k < j → k < n → family_at table k ≡ family_at table i → test k ≡ false
  pub kin : j < n → family_at table j ≡ family_at table i

module _ (table : List ℕ) (n : ℕ) (l : Linked table n) (i : ℕ) (h : i < n) (test : ℕ → Bool) where
  -- it begins with the lowest member, whose number is the family's
  pub along_start : Along table n i test (family_at table i)
  along_start = record { none = λ k a b e. let c = l.low k b in absurd (omega (arith, a, c, e)); kin = λ a. l.lowest i h }

  -- and goes on with the next one
  pub along_next : (j : ℕ) → j < n → Along table n i test j → test j ≡ false → Along table n i test (next_of table j)
  along_next j a s e =
      record {
        none = λ k b c f. by_cases (dec_lt k j) (λ d. s.none k d c f) (λ d.
            by_cases (ℕ_discrete k j) (λ g. ap test g ∙ e) (λ g. absurd (l.none j k a (omega (arith, d, g)) b c (f ∙ sym (s.kin a)))));
        kin = λ b. l.kin j a b ∙ s.kin a;
      }

  -- a member is found by its test
  kin_test_lem : (j : ℕ) → j < n → family_at table j ≡ family_at table i → test j ≡ true → kin_test table n i test j ≡ true
  kin_test_lem j a e t =
      simp and-eq-true_iff (eq-eqb (family_by table n i) (family_by table n j) (family_at_lem table n i h ∙ sym e ∙ sym (family_at_lem table n j a)), t)

  none_below : (j : ℕ) → j ≤ n → Along table n i test j → NoneBelow (kin_test table n i test) j
  none_below j a s =
      record {
        none = λ k b. false_of (kin_test table n i test k) (λ t.
            let r = simp and-eq-true_iff at t in
            let c : k < n = omega (arith, a, b) in
            let f = eqb-true (family_by table n i) (family_by table n k) r.0 in
            let x = s.none k b c (sym (family_at_lem table n k c) ∙ sym f ∙ family_at_lem table n i h) in
            let z = sym r.1 ∙ x in
            true≢false z);
      }

  -- some member passes
  pub along_some : (j : ℕ) → j < n → Along table n i test j → test j ≡ true → any_below n (kin_test table n i test) ≡ true
  along_some j a s t = any_of n (kin_test table n i test) j a (kin_test_lem j a (s.kin a) t)

  -- none does
  pub along_none : (j : ℕ) → n ≤ j → Along table n i test j → any_below n (kin_test table n i test) ≡ false
  along_none j a s = any_none n (kin_test table n i test) (λ k b. (none_below n (omega arith) (record { none = λ k c. s.none k (omega (arith, a, c)); kin = λ c. absurd (omega (arith, c)) })).none k b)

  -- the first that passes
  pub along_first : (j : ℕ) → j < n → Along table n i test j → test j ≡ true → least n (kin_test table n i test) ≡ j
  along_first j a s t = least_is n (kin_test table n i test) j a (none_below j (omega (arith, a)) s) (kin_test_lem j a (s.kin a) t)

  pub along_no_first : (j : ℕ) → n ≤ j → Along table n i test j → least n (kin_test table n i test) ≡ n
  along_no_first j a s =
      least_none n (kin_test table n i test) (none_below n (omega arith) (record { none = λ k c. s.none k (omega (arith, a, c)); kin = λ c. absurd (omega (arith, c)) }))
