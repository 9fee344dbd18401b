-- What the tests of the rows say (document 01, "Exchanges and rounds"): `is_prefix`, `has_relation_prefix_at`, `has_relation_prefix_between`, `clean`, `clean_relation_prefix` and `active`, by positions.
use Prim.Native.Nat.{ℕ, ◌+◌, ◌≤◌, ◌<◌}
use mathlib.Core.Bool.{Bool, true, false, ◌&&◌, not, true≢false, and-eq-true_iff}
use mathlib.Core.List.{List, ◌++◌}
use mathlib.Core.Path.{◌≡◌, refl, sym, ap, ◌∙◌, subst}
use mathlib.Core.Logic.{by_cases, ◌⊎◌, inl, inr}
use native.Mathlib.Omega.{arith}
use native.Mathlib.Decide.{dec_lt}
use lib.Dec.{leb}
use borrow.Author.Tests.{leb-true, le-leb, not-true}
use lib.ListN.{length, get_or, take, drop}
use lib.Seq.{get_or-take, length-take-le}
use Rattle.words.specs.Words.{Word, is_prefix}
use Rattle.words.proofs.Tests.{false_of}
use Rattle.words.proofs.Segments.{Same, same_sym, same_via}
use Rattle.words.proofs.Prefixes.{prefix_same, prefix_fits, same_prefix}
use Rattle.words.proofs.Searching.{any_of, any_found, least_passes, least_first, least_bound}
use Rattle.overlap.specs.Pieces.{word}
use Rattle.overlap.specs.Cuts.{len, xlen, xylen, xy_of}
use Rattle.congruence.specs.Rows.{choose, has_relation_prefix_at, has_relation_prefix_between, clean, clean_relation_prefix, active}
use Rattle.congruence.proofs.Heads.{Facts, Head, Prefix, Clean, one_word, behind}

-- a property of both choices, each where it is chosen
pub by_choose : {A : Type 0} (P : A → Type 0) (b : Bool) (x y : Unit {0} → A) → (b ≡ true → P (x tt)) → (b ≡ false → P (y tt)) → P (choose b x y)
by_choose P true x y f g = f refl
by_choose P false x y f g = g refl

-- stands_at: X and Y of some relation word are a prefix of what is left behind q
pub stands_of_test : (B : List Word) (u : Word) (q j : ℕ) → j < length B → is_prefix (xy_of B j) (drop q u) ≡ true → has_relation_prefix_at B u q ≡ true
unfolding has_relation_prefix_at
stands_of_test B u q j h e = any_of (length B) (λ j. is_prefix (xy_of B j) (drop q u)) j h e

pub test_of_stands : (B : List Word) (u : Word) (q : ℕ) → has_relation_prefix_at B u q ≡ true → (j : ℕ) × (j < length B) × (is_prefix (xy_of B j) (drop q u) ≡ true)
unfolding has_relation_prefix_at
test_of_stands B u q e = any_found (length B) (λ j. is_prefix (xy_of B j) (drop q u)) e

-- a prefix of a word, by position
pub same_take : (w : Word) (n : ℕ) → Same (take n w) 0 w 0 n
same_take w n = record { at = λ k h. ap (λ m. get_or (take n w) m 0) (omega arith) ∙ get_or-take n w k 0 h ∙ ap (λ m. get_or w m 0) (omega arith) }

-- a clean relation prefix is a prefix, and cleanFront gives one
pub prefix_of_clean : (B : List Word) (u : Word) (i : ℕ) → clean B u i ≡ true → is_prefix (xy_of B i) u ≡ true
unfolding clean
prefix_of_clean B u i e = (simp and-eq-true_iff at e).0

pub clean_relation_prefix_passes : (B : List Word) (u : Word) → clean_relation_prefix B u < length B → clean B u (clean_relation_prefix B u) ≡ true
unfolding clean_relation_prefix
clean_relation_prefix_passes B u h = least_passes (length B) (clean B u) h

module _ {B : List Word} where
  -- the first n letters of relation word i are a prefix of what is left of u behind q
  pub head_of_test : (u : Word) (q i n : ℕ) → (i < length B) × (xlen B i < n) × (n ≤ len B i) → is_prefix (take n (word B i)) (drop q u) ≡ true → Head B u q i n
  head_of_test u q i n c e =
      let l = length-take-le n (word B i) c.2 in
      let s : Same (take n (word B i)) 0 u q n = subst (Same (take n (word B i)) 0 u q) l (prefix_same (take n (word B i)) u q e) in
      record {
        there = c.0;
        long = c.1;
        part = c.2;
        fits = let f = prefix_fits (take n (word B i)) u q (omega arith) e in omega arith;
        same = same_via (same_sym (same_take (word B i) n)) s (omega arith);
      }

  pub test_of_head : {u : Word} {q i n : ℕ} → Head B u q i n → is_prefix (take n (word B i)) (drop q u) ≡ true
  test_of_head {u} {q} {i} {n} h =
      let l = length-take-le n (word B i) h.part in
      let s : Same (take n (word B i)) 0 u q n = same_via (same_take (word B i) n) h.same (omega arith) in
      same_prefix (take n (word B i)) u q (let f = h.fits in omega arith) (subst (Same (take n (word B i)) 0 u q) (sym l) s)

  module _ (R : Facts B) where
    pub prefix_of_test : (u : Word) (q i : ℕ) → i < length B → is_prefix (xy_of B i) (drop q u) ≡ true → Prefix B u q i
    prefix_of_test u q i h e = let a = R.some i h in head_of_test u q i (xylen B i) (omega arith) e

    -- X and Y of one relation word at most are a prefix of w
    pub one_prefix : (w : Word) (i j : ℕ) → i < length B → j < length B → is_prefix (xy_of B i) w ≡ true → is_prefix (xy_of B j) w ≡ true → i ≡ j
    one_prefix w i j h l e f = one_word R (prefix_of_test w 0 i h e) (prefix_of_test w 0 j l f)

    -- some XY stands there, by position
    pub stands_found : (u : Word) (q : ℕ) → has_relation_prefix_at B u q ≡ true → (j : ℕ) × Prefix B u q j
    stands_found u q e = let f = test_of_stands B u q e in (f.0, prefix_of_test u q f.0 f.1 f.2)

    pub stands_of_prefix : {u : Word} {q j : ℕ} → Prefix B u q j → has_relation_prefix_at B u q ≡ true
    stands_of_prefix {u} {q} {j} h = stands_of_test B u q j h.there (test_of_head h)

    -- between: some XY begins from lo on and below hi
    pub between_found : (u : Word) (lo hi : ℕ) → has_relation_prefix_between B u lo hi ≡ true → (q : ℕ) × (j : ℕ) × (lo ≤ q) × (q < hi) × Prefix B u q j
    unfolding has_relation_prefix_between
    between_found u lo hi e =
        let f = any_found hi (λ q. leb lo q && has_relation_prefix_at B u q) e in
        let r = simp and-eq-true_iff at f.2 in
        let s = stands_found u f.0 r.1 in
        (f.0, s.0, leb-true lo f.0 r.0, f.1, s.1)

    pub between_of_prefix : {u : Word} {q j : ℕ} (lo hi : ℕ) → (lo ≤ q) × (q < hi) → Prefix B u q j → has_relation_prefix_between B u lo hi ≡ true
    unfolding has_relation_prefix_between
    between_of_prefix {u} {q} {j} lo hi c h = any_of hi (λ q. leb lo q && has_relation_prefix_at B u q) q c.1 (simp and-eq-true_iff (le-leb lo q c.0, stands_of_prefix h))

    pub between_none : (u : Word) (lo hi : ℕ) → has_relation_prefix_between B u lo hi ≡ false → (q j : ℕ) → (lo ≤ q) × (q < hi) → Prefix B u q j → ⊥
    between_none u lo hi e q j c h = true≢false (sym (between_of_prefix lo hi c h) ∙ e)

    -- XY at a place is clean, or another XY begins inside it
    pub clean_or_between : {u : Word} {p i : ℕ} → Prefix B u p i → Clean B u p i ⊎ ((q : ℕ) × (j : ℕ) × (p < q) × (q < p + xylen B i) × Prefix B u q j)
    clean_or_between {u} {p} {i} h = go (has_relation_prefix_between B u (p + 1) (p + xylen B i)) refl
      where
        go : (b : Bool) → has_relation_prefix_between B u (p + 1) (p + xylen B i) ≡ b → Clean B u p i ⊎ ((q : ℕ) × (j : ℕ) × (p < q) × (q < p + xylen B i) × Prefix B u q j)
        go true e = let f = between_found u (p + 1) (p + xylen B i) e in inr (f.0, f.1, omega (arith, f.2), f.3, f.4)
        go false e = inl (record { at = h; only = λ q j a b f. between_none u (p + 1) (p + xylen B i) e q j (omega arith) f })

    -- clean: document 01 looks behind X only, and nothing can begin before
    pub clean_of_test : (u : Word) (i : ℕ) → i < length B → clean B u i ≡ true → Clean B u 0 i
    unfolding clean
    clean_of_test u i h e =
        let r = simp and-eq-true_iff at e in
        let f = prefix_of_test u 0 i h r.0 in
        record { at = f; only = λ q j a b g. let c = behind R f g a in between_none u (xlen B i + 1) (xylen B i) (not-true (has_relation_prefix_between B u (xlen B i + 1) (xylen B i)) r.1) q j (omega arith) g }

    pub test_of_clean : {u : Word} {i : ℕ} → Clean B u 0 i → clean B u i ≡ true
    unfolding clean
    test_of_clean {u} {i} h = simp and-eq-true_iff (test_of_head h.at, ap not (false_of (has_relation_prefix_between B u (xlen B i + 1) (xylen B i)) none))
      where
        none : has_relation_prefix_between B u (xlen B i + 1) (xylen B i) ≡ true → ⊥
        none e = let f = between_found u (xlen B i + 1) (xylen B i) e in h.only f.0 f.1 (omega (arith, f.2)) (omega (arith, f.3)) f.4

    -- cleanFront: the one clean relation prefix, if there is one
    pub clean_relation_prefix_clean : (u : Word) → clean_relation_prefix B u < length B → Clean B u 0 (clean_relation_prefix B u)
    clean_relation_prefix_clean u h = clean_of_test u (clean_relation_prefix B u) h (clean_relation_prefix_passes B u h)

    pub clean_relation_prefix_none : (u : Word) → (clean_relation_prefix B u < length B → ⊥) → (i : ℕ) → Clean B u 0 i → ⊥
    unfolding clean_relation_prefix
    clean_relation_prefix_none u h i c =
        let b = least_bound (length B) (clean B u) in
        let a = c.at in
        true≢false (sym (test_of_clean c) ∙ (least_first (length B) (clean B u)).none i (let t = a.there in by_cases (dec_lt (clean_relation_prefix B u) (length B)) (λ x. absurd (h x)) (λ x. omega arith)))

    -- active: some XY begins in z t before the end of z
    pub active_found : (z t : Word) → active B z t ≡ true → (d : ℕ) × (j : ℕ) × (d < length z) × Prefix B (z ++ t) d j
    unfolding active
    active_found z t e = let f = between_found (z ++ t) 0 (length z) e in (f.0, f.1, f.3, f.4)

    pub active_none : (z t : Word) → active B z t ≡ false → (d j : ℕ) → d < length z → Prefix B (z ++ t) d j → ⊥
    unfolding active
    active_none z t e d j h f = between_none (z ++ t) 0 (length z) e d j (omega arith) f
