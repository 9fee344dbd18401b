-- At most one relation word's X and Y begin a word, clean or not: so the one that does is the only candidate for a clean relation prefix, and clean and active are one search.
use Prim.Native.Nat.{ℕ, ◌+◌, ◌-◌, ◌≤◌, ◌<◌}
use mathlib.Core.Bool.{Bool, true, false, ◌&&◌, not, and-eq-true_iff}
use mathlib.Core.Logic.{by_cases}
use mathlib.Core.List.{List}
use mathlib.Core.Path.{◌≡◌, refl, sym, subst}
use native.Mathlib.Omega.{arith}
use native.Mathlib.Decide.{ℕ_discrete}
use lib.Dec.{leb}
use borrow.Author.Tests.{leb-true, le-leb}
use lib.ListN.{length, drop}
use lib.Seq.{drop-drop}
use Rattle.words.specs.Search.{least}
use Rattle.words.specs.Words.{Word, is_prefix}
use Rattle.words.proofs.Searching.{any_of, any_found, any_none, none_of, least_is, least_none, least_first, least_passes, least_bound}
use Rattle.words.proofs.Picks.{and_left}
use Rattle.overlap.specs.Cuts.{xlen, xylen, xy_of}
use Rattle.overlap.proofs.Rigid.{Rigid}
use Rattle.congruence.specs.Rows.{has_relation_prefix_at, has_relation_prefix_between, clean, clean_relation_prefix}
use Rattle.congruence.proofs.RowTests.{one_prefix, prefix_of_clean, clean_relation_prefix_passes}

module _ (B : List Word) (r : Rigid B (xlen B) (xylen B)) (w : Word) where
  -- no other is a clean relation prefix
  other_unclean : (i j : ℕ) → i < length B → j < length B → is_prefix (xy_of B i) w ≡ true → (j ≡ i → ⊥) → clean B w j ≡ false
  unfolding clean
  other_unclean i j hi hj e d = go (is_prefix (xy_of B j) w) refl
    where
      go : (t : Bool) → is_prefix (xy_of B j) w ≡ t → (is_prefix (xy_of B j) w && not (has_relation_prefix_between B w (xlen B j + 1) (xylen B j))) ≡ false
      go true q = absurd (d (sym (one_prefix r w i j hi hj e q)))
      go false q = rw q

  module _ (k : ℕ) (f : k ≡ least (length B) (λ j. is_prefix (xy_of B j) w)) where
    -- the one front passes the test
    pub prefix_here : k < length B → is_prefix (xy_of B k) w ≡ true
    prefix_here h = rw f (least_passes (length B) (λ j. is_prefix (xy_of B j) w) (rw f at h))

    pub clean_none : length B ≤ k → length B ≡ clean_relation_prefix B w
    unfolding clean_relation_prefix clean
    clean_none h =
        let b = least_bound (length B) (λ j. is_prefix (xy_of B j) w) in
        let z = least_first (length B) (λ j. is_prefix (xy_of B j) w) in
        sym (least_none (length B) (clean B w) (record { none = λ j l. and_left _ _ (z.none j (omega arith)) }))

    pub clean_between : k < length B → has_relation_prefix_between B w (xlen B k + 1) (xylen B k) ≡ true → length B ≡ clean_relation_prefix B w
    unfolding clean_relation_prefix clean
    clean_between h c =
        let e = prefix_here h in
        sym (least_none (length B) (clean B w) (record {
          none = λ j l. by_cases (ℕ_discrete j k)
              (λ q. subst (λ (m : ℕ). clean B w m ≡ false) (sym q) (rw (c, e)))
              (λ q. other_unclean k j h l e q);
        }))

    pub clean_here : k < length B → has_relation_prefix_between B w (xlen B k + 1) (xylen B k) ≡ false → k ≡ clean_relation_prefix B w
    unfolding clean_relation_prefix clean
    clean_here h c =
        let e = prefix_here h in
        sym (least_is (length B) (clean B w) k h (record { none = λ j l. other_unclean k j h (omega arith) e (λ q. absurd (omega arith)) }) (rw (e, c)))

-- a clean relation prefix is a prefix
pub clean_prefix : (B : List Word) (w : Word) (i : ℕ) → i ≡ clean_relation_prefix B w → i < length B → is_prefix (xy_of B i) w ≡ true
clean_prefix B w i e h = prefix_of_clean B w i (rw e (clean_relation_prefix_passes B w (rw e at h)))

-- what stands behind the first m letters, counted from there or from the start
stands_drop : (B : List Word) (w : Word) (m q : ℕ) → has_relation_prefix_at B (drop m w) q ≡ has_relation_prefix_at B w (m + q)
unfolding has_relation_prefix_at
stands_drop B w m q = rw drop-drop

-- the test of `has_relation_prefix_between`
abbrev from : List Word → Word → ℕ → ℕ → Bool
from B w lo q = leb lo q && has_relation_prefix_at B w q

pub between_drop : (B : List Word) (w : Word) (m k : ℕ) → has_relation_prefix_between B (drop m w) 0 k ≡ has_relation_prefix_between B w m (m + k)
unfolding has_relation_prefix_between
between_drop B w m k = go (has_relation_prefix_between B w m (m + k)) refl
  where
    go : (t : Bool) → has_relation_prefix_between B w m (m + k) ≡ t → has_relation_prefix_between B (drop m w) 0 k ≡ t
    go true e =
        let f = any_found (m + k) (from B w m) e in
        let b = simp and-eq-true_iff at f.2 in
        let l = leb-true m f.0 b.0 in
        let q : m + (f.0 - m) ≡ f.0 = omega arith in
        any_of k (from B (drop m w) 0) (f.0 - m) (omega arith) (rw (le-leb 0 (f.0 - m) (omega arith), stands_drop B w m (f.0 - m), q) b.1)
    go false e =
        any_none k (from B (drop m w) 0) (λ q h.
        let n = none_of (m + k) (from B w m) e (m + q) (omega arith) in
        rw (le-leb 0 q (omega arith), stands_drop B w m q) (rw (le-leb m (m + q) (omega arith)) at n))
