-- What a round makes of its three words, whichever row fits: it drops a letter of each (row 2), or it cuts at least an X and Y from u and from v
-- and puts an end of a Z before what is left (rows 4 to 8).
use Prim.Native.Nat.{ℕ, ◌+◌, ◌-◌, ◌≤◌, ◌<◌}
use mathlib.Core.Bool.{Bool, true, ◌&&◌, ◌||◌, and-eq-true_iff}
use lib.Dec.{ltb}
use borrow.Author.Tests.{ltb-true}
use mathlib.Core.Logic.{◌⊎◌, inl, inr}
use mathlib.Core.List.{List, [], ◌++◌}
use mathlib.Core.Path.{◌≡◌, refl, subst}
use native.Mathlib.Omega.{arith}
use lib.ListN.{length, take, drop, length-drop}
use lib.Seq.{drop-drop}
use Rattle.words.specs.Words.{Word, is_empty, is_prefix, common_suffix}
use Rattle.words.proofs.Prefixes.{prefix_length}
use Rattle.overlap.specs.Pieces.{word}
use Rattle.overlap.specs.Cuts.{len, xylen, x_of, xy_of, z_of}
use Rattle.overlap.proofs.Facts.{length_xy}
use Rattle.congruence.specs.Rows.{Next, choose, clean_relation_prefix, active, alike, first_other, first_active, tail_member, primed_word, row1, row2, row4, row5, row6, row7, row8, makes, round}
use Rattle.congruence.specs.Rows.Next.{end, go}
use Rattle.congruence.specs.Theorem.{EndOfTail}
use Rattle.congruence.specs.Theorem.EndOfTail.{nothing}
use Rattle.congruence.proofs.Heads.{Facts}
use Rattle.congruence.proofs.RowTests.{by_choose, prefix_of_clean}
use Rattle.congruence.proofs.FirstRow.{Fits, xy_of_whole, fits}
use Rattle.congruence.proofs.FirstRow.Fits.{fits1, fits2, fits3, fits4, fits5, fits6, fits7, fits8}
use Rattle.congruence.proofs.ShapeNoPrefix.{tail_of_z, tail_drop}

-- u begins with an X and Y; `size` letters, these among them, are cut from it, and u' is z, an end of a Z, and what is left
pub record Recut (B : List Word) (u z u' : Word) : Type 0 where
  pub by : ℕ
  pub there : by < length B
  pub begins : is_prefix (xy_of B by) u ≡ true
  pub size : ℕ
  pub enough : xylen B by ≤ size
  pub fits : size ≤ length u
  pub tail : EndOfTail B z
  pub made : u' ≡ z ++ drop size u

-- the change that a round makes of u, v and p; a mark that is not empty comes only with two words before which nothing is put
pub data Moves (B : List Word) (u v p u' v' p' : Word) : Type 0 where
  drops : 0 < length u → 0 < length v → u' ≡ drop 1 u → v' ≡ drop 1 v → p' ≡ drop 1 p → Moves B u v p u' v' p'
  cuts : {y z : Word} → Recut B u y u' → Recut B v z v' → EndOfTail B p' → (p' ≡ []) ⊎ ((y ≡ []) × (z ≡ [])) → Moves B u v p u' v' p'

-- the same of what a round gives; an end moves nothing
pub data MovesTo (B : List Word) (u v p : Word) : Next → Type 0 where
  ends : {b : Bool} → MovesTo B u v p (end b)
  moves : {u' v' p' : Word} → Moves B u v p u' v' p' → MovesTo B u v p (go u' v' p')

module _ (B : List Word) (c : Facts B) where
  -- a word that begins with a whole relation word, cut by it
  cut_whole : (i : ℕ) (u z : Word) → i < length B → EndOfTail B z → is_prefix (word B i) u ≡ true → Recut B u z (z ++ drop (len B i) u)
  cut_whole i u z h t e =
      let l = prefix_length (word B i) u e in
      record {
        by = i;
        there = h;
        begins = xy_of_whole B i u e;
        size = len B i;
        enough = c.within i h;
        fits = l;
        tail = t;
        made = refl;
      }

  -- a word that begins with X and Y, cut by these and n letters more
  cut_prefix : (i n : ℕ) (u : Word) → i < length B → n + xylen B i ≤ length u → is_prefix (xy_of B i) u ≡ true → Recut B u [] (drop n (drop (xylen B i) u))
  cut_prefix i n u h f e =
      record {
        by = i;
        there = h;
        begins = e;
        size = xylen B i + n;
        enough = omega arith;
        fits = omega arith;
        tail = nothing refl;
        made = drop-drop n (xylen B i) u;
      }

  cut_xy : (i : ℕ) (u : Word) → i < length B → is_prefix (xy_of B i) u ≡ true → Recut B u [] (drop (xylen B i) u)
  cut_xy i u h e = let l = prefix_length (xy_of B i) u e in let m = length_xy B i in cut_prefix i 0 u h (omega arith) e

  fits_prefix : (i : ℕ) (e u : Word) → i < length B → is_prefix (xy_of B i) u ≡ true → is_prefix e (drop (xylen B i) u) ≡ true → length e + xylen B i ≤ length u
  fits_prefix i e u h f g =
      let l = length_xy B i in
      let m = prefix_length (xy_of B i) u f in
      let k = prefix_length e (drop (xylen B i) u) g in
      let d = length-drop (xylen B i) u in
      omega arith

  module _ (i j : ℕ) (hi : i < length B) (hj : j < length B) (u v p : Word) where
    -- the mark of row 5
    row5_mark : EndOfTail B (choose (is_prefix p (x_of B i)) (λ _. []) (λ _. z_of B i))
    row5_mark = by_choose (EndOfTail B) (is_prefix p (x_of B i)) _ _ (λ h. nothing refl) (λ h. tail_of_z B i hi)

    row8_moves : is_prefix (xy_of B i) u ≡ true → is_prefix (xy_of B j) v ≡ true → MovesTo B u v p (row8 B i j u v p)
    unfolding row8
    row8_moves eu ev =
        let s = drop (xylen B i) u in
        let t = drop (xylen B j) v in
        let l = common_suffix (z_of B i) (z_of B j) in
        let e = take (length (z_of B i) - l) (z_of B i) in
        let f = take (length (z_of B j) - l) (z_of B j) in
        by_choose (MovesTo B u v p) (is_prefix e s && is_prefix f t) _ _ (λ h.
        let r = simp and-eq-true_iff at h in
        moves (cuts (cut_prefix i (length e) u hi (fits_prefix i e u hi eu r.0) eu) (cut_prefix j (length f) v hj (fits_prefix j f v hj ev r.1) ev)
        (tail_drop B (z_of B i) (length e) (tail_of_z B i hi)) (inr (refl, refl)))) (λ h. ends)

  -- the member whose tail row 4 goes on with is one of the relation words
  pub tail_member_there : (family : ℕ → ℕ) (i : ℕ) (s : Word) → i < length B → tail_member B family i s < length B
  unfolding tail_member
  tail_member_there family i s h =
      by_choose (λ m. m < length B) (active B (z_of B i) s) _ _ (λ e. h) (λ e.
      by_choose (λ m. m < length B) (ltb (first_active B family i s) (length B)) _ _ (λ f. ltb-true (first_active B family i s) (length B) f) (λ f.
      by_choose (λ m. m < length B) (ltb (first_other B family i) (length B)) _ _ (λ g. ltb-true (first_other B family i) (length B) g) (λ g. h)))

  -- every row, where it fits first
  row_moves : (family : ℕ → ℕ) (i j : ℕ) (u v p : Word) (row : ℕ) → Fits B family i j u v p row → MovesTo B u v p (makes B family i j u v p row)
  unfolding makes row1 row2 row4 row5 row6 row7
  row_moves family i j u v p row (fits1 e) = ends
  row_moves family i j u v p row (fits2 a b l) =
      by_choose (MovesTo B u v p) (alike u v && (is_empty p || alike p u)) _ _ (λ h. moves (drops a b refl refl refl)) (λ h. ends)
  row_moves family i j u v p row (fits3 k q) = ends
  row_moves family i j u v p row (fits4 k m o q r) =
      let t = tail_of_z B (tail_member B family i (drop (len B i) u)) (tail_member_there family i (drop (len B i) u) k.there) in
      moves (cuts (cut_whole i u _ k.there t q) (cut_whole j v _ o.there t r) (nothing refl) (inl refl))
  row_moves family i j u v p row (fits5 k m o q w) =
      moves (cuts (cut_xy i u k.there (prefix_of_clean B u i k.clean)) (cut_xy i v k.there q) (row5_mark i j k.there o.there u v p) (inr (refl, refl)))
  row_moves family i j u v p row (fits6 k m o a z w) =
      moves (cuts (cut_xy i u k.there (prefix_of_clean B u i k.clean)) (cut_whole j v (z_of B i) o.there (tail_of_z B i k.there) w) (nothing refl) (inl refl))
  row_moves family i j u v p row (fits7 k m o a w z) =
      moves (cuts (cut_whole i u (z_of B j) k.there (tail_of_z B j o.there) w) (cut_xy j v o.there o.begins) (nothing refl) (inl refl))
  row_moves family i j u v p row (fits8 k m o a w z) = row8_moves i j k.there o.there u v p (prefix_of_clean B u i k.clean) o.begins

-- every round that goes on makes one of the two changes
pub round_moves : (B : List Word) (family : ℕ → ℕ) → Facts B → {u v p u' v' p' : Word} → round B family u v p ≡ go u' v' p' → Moves B u v p u' v' p'
unfolding round
round_moves B family c {u} {v} {p} {u'} {v'} {p'} r =
    moved (subst (MovesTo B u v p) r (row_moves B c family (clean_relation_prefix B u) (primed_word B family u v) u v p _ (fits B family u v p)))
  where
    moved : MovesTo B u v p (go u' v' p') → Moves B u v p u' v' p'
    moved (moves m) = m
