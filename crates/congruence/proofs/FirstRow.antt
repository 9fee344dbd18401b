-- The first row that fits, taken apart once: what holds of u, v and p where a row fits first. Every proof about rounds goes through `fits`.
-- Relation word i is the clean relation prefix of u, and j is the member of its family that v begins with.
use Prim.Native.Nat.{ℕ, ◌≤◌, ◌<◌}
use mathlib.Core.Bool.{Bool, true, false, ◌&&◌, ◌||◌, not, true≢false, and-eq-true_iff}
use mathlib.Core.List.{List}
use mathlib.Core.Path.{◌≡◌, refl, sym, ap, ◌∙◌}
use native.Mathlib.Omega.{arith}
use lib.Dec.{leb, ltb}
use borrow.Author.Tests.{eqb-true, leb-true, leb-false, ltb-true, not-true, not-false}
use lib.ListN.{length, drop, take-append-drop}
use Rattle.words.specs.Words.{Word, is_empty, is_prefix}
use Rattle.words.proofs.Tests.{or_neither}
use Rattle.words.proofs.Lists.{some_letter}
use Rattle.words.proofs.Prefixes.{prefix_both}
use Rattle.words.proofs.Searching.{least_passes}
use Rattle.overlap.specs.Pieces.{word}
use Rattle.overlap.specs.Cuts.{xylen, xy_of, z_of}
use Rattle.overlap.proofs.Facts.{length_xy}
use Rattle.congruence.specs.Rows.{choose, clean, clean_relation_prefix, marked_by_any, begun, member_of, primed_word, fitting, first_row}
use Rattle.congruence.proofs.RowTests.{by_choose, prefix_of_clean, clean_relation_prefix_passes}

-- a word begins with a relation word where it begins with its X and Y and its Z follows
pub prefix_whole : (B : List Word) (i : ℕ) (w : Word) → is_prefix (word B i) w ≡ (is_prefix (xy_of B i) w && is_prefix (z_of B i) (drop (xylen B i) w))
prefix_whole B i w =
    ap (λ a. is_prefix a w) (sym (take-append-drop (xylen B i) (word B i))) ∙ prefix_both (xy_of B i) (z_of B i) w
    ∙ ap (λ k. is_prefix (xy_of B i) w && is_prefix (z_of B i) (drop k w)) (length_xy B i)

pub xy_of_whole : (B : List Word) (i : ℕ) (w : Word) → is_prefix (word B i) w ≡ true → is_prefix (xy_of B i) w ≡ true
xy_of_whole B i w e =
    let r : (is_prefix (xy_of B i) w && is_prefix (z_of B i) (drop (xylen B i) w)) ≡ true = sym (prefix_whole B i w) ∙ e in
    (simp and-eq-true_iff at r).0

-- relation word i is the clean relation prefix of u
pub record CleanPrefix (B : List Word) (u : Word) (i : ℕ) : Type 0 where
  pub there : i < length B
  pub clean : clean B u i ≡ true

-- relation word j is a member of i's family whose X and Y v begins with
pub record Member (B : List Word) (family : ℕ → ℕ) (v : Word) (i j : ℕ) : Type 0 where
  pub there : j < length B
  pub kin : family i ≡ family j
  pub begins : is_prefix (xy_of B j) v ≡ true

-- what holds where a row fits first: its own condition, with what the rows before it leave
pub data Fits (B : List Word) (family : ℕ → ℕ) (i j : ℕ) (u v p : Word) : ℕ → Type 0 where
  fits1 : (is_empty u || is_empty v) ≡ true → Fits B family i j u v p 1
  fits2 : 0 < length u → 0 < length v → length B ≤ i → Fits B family i j u v p 2
  fits3 : CleanPrefix B u i → (marked_by_any B family i p && ltb j (length B)) ≡ false → Fits B family i j u v p 3
  fits4 : CleanPrefix B u i → marked_by_any B family i p ≡ true → Member B family v i j → is_prefix (word B i) u ≡ true → is_prefix (word B j) v ≡ true
      → Fits B family i j u v p 4
  fits5 : CleanPrefix B u i → marked_by_any B family i p ≡ true → Member B family v i j → is_prefix (xy_of B i) v ≡ true
      → (is_prefix (word B i) u && is_prefix (word B j) v) ≡ false → Fits B family i j u v p 5
  fits6 : CleanPrefix B u i → marked_by_any B family i p ≡ true → Member B family v i j → is_prefix (xy_of B i) v ≡ false
      → is_prefix (z_of B i) (drop (xylen B i) u) ≡ false → is_prefix (word B j) v ≡ true → Fits B family i j u v p 6
  fits7 : CleanPrefix B u i → marked_by_any B family i p ≡ true → Member B family v i j → is_prefix (xy_of B i) v ≡ false
      → is_prefix (word B i) u ≡ true → is_prefix (z_of B j) (drop (xylen B j) v) ≡ false → Fits B family i j u v p 7
  fits8 : CleanPrefix B u i → marked_by_any B family i p ≡ true → Member B family v i j → is_prefix (xy_of B i) v ≡ false
      → is_prefix (z_of B i) (drop (xylen B i) u) ≡ false → is_prefix (z_of B j) (drop (xylen B j) v) ≡ false → Fits B family i j u v p 8

-- row 8 is what is left: whether Z follows in u and Z' in v decides between rows 4, 6, 7 and 8
left_over : (x y : Bool) → (x && y) ≡ false → (not x && y) ≡ false → (x && not y) ≡ false → (x ≡ false) × (y ≡ false)
left_over true y a b c = absurd (true≢false (c' y a c))
  where
    c' : (y : Bool) → y ≡ false → not y ≡ false → true ≡ false
    c' true a c = a
    c' false a c = c
left_over false y a b c = (refl, b)

module _ (B : List Word) (family : ℕ → ℕ) (i j : ℕ) (u v p : Word) where
  -- rows 6 to 8 by X and Y of j in v
  fits_other : CleanPrefix B u i → marked_by_any B family i p ≡ true → Member B family v i j → is_prefix (xy_of B i) v ≡ false
      → (is_prefix (word B i) u && is_prefix (word B j) v) ≡ false
      → Fits B family i j u v p (choose (not (is_prefix (z_of B i) (drop (xylen B i) u)) && is_prefix (word B j) v) (λ _. 6) (λ _.
      choose (is_prefix (word B i) u && not (is_prefix (z_of B j) (drop (xylen B j) v))) (λ _. 7) (λ _. 8)))
  fits_other c m b a n =
      by_choose (Fits B family i j u v p) (not (is_prefix (z_of B i) (drop (xylen B i) u)) && is_prefix (word B j) v) _ _
      (λ h. let r = simp and-eq-true_iff at h in fits6 c m b a (not-true (is_prefix (z_of B i) (drop (xylen B i) u)) r.0) r.1)
      (λ h.
      by_choose (Fits B family i j u v p) (is_prefix (word B i) u && not (is_prefix (z_of B j) (drop (xylen B j) v))) _ _
      (λ k. let r = simp and-eq-true_iff at k in fits7 c m b a r.0 (not-true (is_prefix (z_of B j) (drop (xylen B j) v)) r.1))
      (λ k. let l = left_over (is_prefix (z_of B i) (drop (xylen B i) u)) (is_prefix (z_of B j) (drop (xylen B j) v)) (rw (u_whole, v_whole) at n) (rw v_whole at h) (rw u_whole at k) in
      fits8 c m b a l.0 l.1))
    where
      u_whole : is_prefix (word B i) u ≡ is_prefix (z_of B i) (drop (xylen B i) u)
      u_whole = prefix_whole B i u ∙ rw (prefix_of_clean B u i c.clean)

      v_whole : is_prefix (word B j) v ≡ is_prefix (z_of B j) (drop (xylen B j) v)
      v_whole = prefix_whole B j v ∙ rw b.begins

  pub fits_row : (i < length B → clean B u i ≡ true) → (j < length B → Member B family v i j) → Fits B family i j u v p (fitting B family i j u v p)
  unfolding fitting
  fits_row g o =
      by_choose (Fits B family i j u v p) (is_empty u || is_empty v) _ _ fits1 (λ e.
      let n = or_neither (is_empty u) (is_empty v) e in
      by_choose (Fits B family i j u v p) (leb (length B) i) _ _ (λ h. fits2 (some_letter u n.0) (some_letter v n.1) (leb-true (length B) i h)) (λ h.
      let l = leb-false (length B) i h in
      let c : CleanPrefix B u i = record { there = l; clean = g l } in
      by_choose (Fits B family i j u v p) (not (marked_by_any B family i p && ltb j (length B))) _ _
      (λ k. fits3 c (not-true _ k)) (λ k.
      let r = simp and-eq-true_iff at (not-false (marked_by_any B family i p && ltb j (length B)) k) in
      let b = o (ltb-true j (length B) r.1) in
      by_choose (Fits B family i j u v p) (is_prefix (word B i) u && is_prefix (word B j) v) _ _
      (λ w. let s = simp and-eq-true_iff at w in fits4 c r.0 b s.0 s.1) (λ w.
      by_choose (Fits B family i j u v p) (is_prefix (xy_of B i) v) _ _
      (λ a. fits5 c r.0 b a w)
      (λ a. fits_other c r.0 b a w)))))

-- what the test for a member says
begun_both : (B : List Word) (family : ℕ → ℕ) (i : ℕ) (v : Word) (j : ℕ) → begun B family i v j ≡ true → (family i ≡ family j) × (is_prefix (xy_of B j) v ≡ true)
unfolding begun
begun_both B family i v j e = let r = simp and-eq-true_iff at e in (eqb-true (family i) (family j) r.0, r.1)

-- the member that v begins with is one
pub member_of_begins : (B : List Word) (family : ℕ → ℕ) (i : ℕ) (v : Word) → member_of B family i v < length B → Member B family v i (member_of B family i v)
unfolding member_of
member_of_begins B family i v h =
    let r = begun_both B family i v (member_of B family i v) (least_passes (length B) (begun B family i v) h) in
    record { there = h; kin = r.0; begins = r.1 }

-- the elimination law of the rows
pub fits : (B : List Word) (family : ℕ → ℕ) (u v p : Word) → Fits B family (clean_relation_prefix B u) (primed_word B family u v) u v p (first_row B family u v p)
unfolding first_row
fits B family u v p =
    fits_row B family (clean_relation_prefix B u) (primed_word B family u v) u v p (clean_relation_prefix_passes B u) (member_of_begins B family (clean_relation_prefix B u) v)

-- what the number says of u and v: below row 3 none of the relation words matters, and from row 3 on u has a clean relation prefix
module _ {B : List Word} {family : ℕ → ℕ} {i j : ℕ} {u v p : Word} where
  pub prefix_of_fits : {row : ℕ} → Fits B family i j u v p row → 2 < row → CleanPrefix B u i
  prefix_of_fits (fits1 e) h = absurd (omega arith)
  prefix_of_fits (fits2 a b l) h = absurd (omega arith)
  prefix_of_fits (fits3 c q) h = c
  prefix_of_fits (fits4 c m o q r) h = c
  prefix_of_fits (fits5 c m o q w) h = c
  prefix_of_fits (fits6 c m o a z w) h = c
  prefix_of_fits (fits7 c m o a w z) h = c
  prefix_of_fits (fits8 c m o a w z) h = c

  pub row_of_prefix : {row : ℕ} → Fits B family i j u v p row → is_empty u ≡ false → is_empty v ≡ false → i < length B → 2 < row
  row_of_prefix (fits1 e) a b l = absurd (true≢false (sym e ∙ rw (a, b)))
  row_of_prefix (fits2 x y k) a b l = absurd (omega arith)
  row_of_prefix (fits3 c q) a b l = omega arith
  row_of_prefix (fits4 c m o q r) a b l = omega arith
  row_of_prefix (fits5 c m o q w) a b l = omega arith
  row_of_prefix (fits6 c m o x z w) a b l = omega arith
  row_of_prefix (fits7 c m o x w z) a b l = omega arith
  row_of_prefix (fits8 c m o x w z) a b l = omega arith

  -- row 8 is the last one
  pub row_eight : {row : ℕ} → Fits B family i j u v p row → (row ≡ 1 → ⊥) → (row ≡ 2 → ⊥) → (row ≡ 3 → ⊥) → (row ≡ 4 → ⊥) → (row ≡ 5 → ⊥) → (row ≡ 6 → ⊥) → (row ≡ 7 → ⊥) → row ≡ 8
  row_eight (fits1 e) h1 h2 h3 h4 h5 h6 h7 = absurd (h1 refl)
  row_eight (fits2 a b l) h1 h2 h3 h4 h5 h6 h7 = absurd (h2 refl)
  row_eight (fits3 c q) h1 h2 h3 h4 h5 h6 h7 = absurd (h3 refl)
  row_eight (fits4 c m o q r) h1 h2 h3 h4 h5 h6 h7 = absurd (h4 refl)
  row_eight (fits5 c m o q w) h1 h2 h3 h4 h5 h6 h7 = absurd (h5 refl)
  row_eight (fits6 c m o a z w) h1 h2 h3 h4 h5 h6 h7 = absurd (h6 refl)
  row_eight (fits7 c m o a w z) h1 h2 h3 h4 h5 h6 h7 = absurd (h7 refl)
  row_eight (fits8 c m o a w z) h1 h2 h3 h4 h5 h6 h7 = refl
