-- Where no word is on two sides, families are the two sides of a relation, and the rows for families give the rounds of the rows for pairs (PairRows).
use Prim.Native.Nat.{ℕ, ◌<◌}
use mathlib.Core.Bool.{Bool, true, false, ◌&&◌, ◌||◌, true≢false, and-eq-true_iff}
use mathlib.Core.List.{List}
use mathlib.Core.Logic.{⊎_elim, ◌⊎◌, inl, inr}
use mathlib.Core.Path.{◌≡◌, refl, sym, ap, ◌∙◌, subst}
use native.Mathlib.Omega.{arith}
use lib.Dec.{eqb, leb, ltb}
use borrow.Author.Tests.{leb-false, ltb-true, ltb-false, lt-ltb, not-true, eqb-false}
use lib.ListN.{length, drop}
use Rattle.words.specs.Words.{Word, is_empty, is_prefix}
use Rattle.words.specs.Relations.{Relation, relation_words, other}
use Rattle.words.specs.Families.{words_of, family_of}
use Rattle.words.proofs.Relations.{Even, even_sides, other_there, other_differs}
use Rattle.words.proofs.Tests.{true_or_false, false_of, or_found}
use Rattle.words.proofs.Picks.{or_left, or_right}
use Rattle.words.proofs.Distinct.{distinct_of_once}
use Rattle.words.proofs.Families.{family_of_once}
use Rattle.words.proofs.Searching.{least_passes, least_first}
use Rattle.overlap.specs.Pieces.{word}
use Rattle.overlap.specs.Cuts.{len, x_of, xy_of, z_of}
use Rattle.overlap.proofs.Facts.{rigid_of_c4}
use Rattle.congruence.specs.Rows.{choose, clean_relation_prefix, active, marked_by_any, member_of, is_other, first_other, first_active, tail_member, primed_word, row4, row5, makes, fitting, first_row, round}
use Rattle.congruence.specs.Rounds.{Rounds}
use Rattle.congruence.specs.PairRows.{pair_fitting, pair_row4, pair_makes, pair_round, PairRounds}
use Rattle.congruence.specs.Theorem.{NoneShared, PairsUnchanged}
use Rattle.congruence.proofs.Heads.{Facts}
use Rattle.congruence.proofs.Chains.{Kin, kin_refl}
use Rattle.congruence.proofs.RowTests.{by_choose, one_prefix}
use Rattle.congruence.proofs.FirstRow.{Member, Fits, xy_of_whole, member_of_begins, fits}
use Rattle.congruence.proofs.FirstRow.Fits.{fits1, fits2, fits3, fits4, fits5, fits6, fits7, fits8}
use Rattle.congruence.proofs.RoundRight.{marked_by_any_lem, marked_found, member_found, kin_of_other, other_of_kin}

-- tests that hold together are equal
same_test : (a b : Bool) → (a ≡ true → b ≡ true) → (b ≡ true → a ≡ true) → a ≡ b
same_test true b f g = sym (f refl)
same_test false b f g = sym (false_of b (λ e. true≢false (sym (g e))))

-- a test beside one that fails
or_false : (a b : Bool) → b ≡ false → (a || b) ≡ a
or_false true b e = refl
or_false false b e = e

-- families of two: relation words of one family are the same, or the two sides of one relation
pub record Twos (B : List Word) (family : ℕ → ℕ) : Type 0 where
  pub other_kin : (i : ℕ) → i < length B → Kin B family i (other i)
  pub two : (i j : ℕ) → Kin B family i j → (i ≡ j) ⊎ (j ≡ other i)

module _ {B : List Word} (R : Facts B) (family : ℕ → ℕ) (t : Twos B family) where
  module _ (i : ℕ) (h : i < length B) where
    -- a test that holds of a member holds of one of the two, and the other way
    of_kin : (f : ℕ → Bool) (l : ℕ) → Kin B family i l → f l ≡ true → (f i || f (other i)) ≡ true
    of_kin f l k e = ⊎_elim
        (λ y. or_left (f i) (f (other i)) (subst (λ (r : ℕ). f r ≡ true) (sym y) e))
        (λ y. or_right (f i) (f (other i)) (subst (λ (r : ℕ). f r ≡ true) y e))
        (t.two i l k)

    to_kin : (f : ℕ → Bool) → (f i || f (other i)) ≡ true → (l : ℕ) × Kin B family i l × (f l ≡ true)
    to_kin f e = ⊎_elim (λ q. (i, kin_refl h, q)) (λ q. (other i, t.other_kin i h, q)) (or_found (f i) (f (other i)) e)

    -- row 3's two tests
    marked_two : (p : Word) → marked_by_any B family i p ≡ (is_prefix p (x_of B i) || is_prefix p (x_of B (other i)))
    marked_two p = same_test _ _
        (λ e. let m = marked_found R family i p h e in of_kin (λ l. is_prefix p (x_of B l)) m.0 m.1 m.2)
        (λ e. marked_by_any_lem R family i p (to_kin (λ l. is_prefix p (x_of B l)) e))

    member_two : (v : Word) → ltb (member_of B family i v) (length B) ≡ (is_prefix (xy_of B i) v || is_prefix (xy_of B (other i)) v)
    member_two v = same_test _ _
        (λ e.
        let o = member_of_begins B family i v (ltb-true (member_of B family i v) (length B) e) in
        of_kin (λ l. is_prefix (xy_of B l) v) (member_of B family i v) (record { here = h; there = o.there; same = o.kin }) o.begins)
        (λ e.
        let m = to_kin (λ l. is_prefix (xy_of B l) v) e in
        lt-ltb (member_of B family i v) (length B) (member_found R family i v m.0 m.1 m.2))

    -- v begins with XY of i, or of the other side; then not with the whole word of the first
    other_not_begun : (v : Word) → is_prefix (xy_of B i) v ≡ true → is_prefix (word B (other i)) v ≡ false
    other_not_begun v e = false_of (is_prefix (word B (other i)) v) (λ f.
        other_differs i (one_prefix R v i (other i) h (t.other_kin i h).there e (xy_of_whole B (other i) v f)))

    own_not_begun : (v : Word) → is_prefix (xy_of B i) v ≡ false → is_prefix (word B i) v ≡ false
    own_not_begun v e = false_of (is_prefix (word B i) v) (λ f. true≢false (sym (xy_of_whole B i v f) ∙ e))

    module _ (v : Word) {j : ℕ} (o : Member B family v i j) where
      is_own : is_prefix (xy_of B i) v ≡ true → i ≡ j
      is_own e = one_prefix R v i j h o.there e o.begins

      is_other_lem : is_prefix (xy_of B i) v ≡ false → j ≡ other i
      is_other_lem e = ⊎_elim
          (λ y. absurd (true≢false (sym (subst (λ (l : ℕ). is_prefix (xy_of B l) v ≡ true) (sym y) o.begins) ∙ e)))
          (λ y. y)
          (t.two i j (record { here = h; there = o.there; same = o.kin }))

    -- row 4's tail: that of i, or that of the other side
    other_is : (j : ℕ) → j < length B → is_other family i j ≡ true → j ≡ other i
    unfolding is_other
    other_is j l e = ⊎_elim
        (λ y. absurd (eqb-false i j (not-true (eqb i j) (simp and-eq-true_iff at e).1) y))
        (λ y. y)
        (t.two i j (kin_of_other R family i j h l e))

    tail_two : (s : Word) → z_of B (tail_member B family i s) ≡ choose (active B (z_of B i) s) (λ _. z_of B i) (λ _. z_of B (other i))
    unfolding tail_member first_active first_other
    tail_two s =
        by_choose Right (active B (z_of B i) s) _ _ (λ e. rw e) (λ e.
        by_choose Right (ltb (first_active B family i s) (length B)) _ _ (λ f. rw e (ap (z_of B) (first_active_lem f))) (λ f.
        by_choose Right (ltb (first_other B family i) (length B)) _ _ (λ g. rw e (ap (z_of B) (first_other_lem g))) (λ g. absurd (no_other g))))
      where
        Right : ℕ → Type 0
        Right m = z_of B m ≡ choose (active B (z_of B i) s) (λ _. z_of B i) (λ _. z_of B (other i))

        first_active_lem : ltb (first_active B family i s) (length B) ≡ true → first_active B family i s ≡ other i
        first_active_lem f =
            let l = ltb-true (first_active B family i s) (length B) f in
            let r = simp and-eq-true_iff at (least_passes (length B) (λ j. is_other family i j && active B (z_of B j) s) l) in
            other_is (first_active B family i s) l r.0

        first_other_lem : ltb (first_other B family i) (length B) ≡ true → first_other B family i ≡ other i
        first_other_lem f =
            let l = ltb-true (first_other B family i) (length B) f in
            other_is (first_other B family i) l (least_passes (length B) (is_other family i) l)

        no_other : ltb (first_other B family i) (length B) ≡ false → ⊥
        no_other f =
            let k = t.other_kin i h in
            let l = ltb-false (first_other B family i) (length B) f in
            let d = k.there in
            true≢false (sym (other_of_kin R family i (other i) k (other_differs i)) ∙ (least_first (length B) (is_other family i)).none (other i) (omega arith))

    -- the same row fits first
    module _ (u v p : Word) (a : (is_empty u || is_empty v) ≡ false) (b : leb (length B) i ≡ false) where
      -- row 3's condition, over two
      abbrev going : Bool
      going = (is_prefix p (x_of B i) || is_prefix p (x_of B (other i))) && (is_prefix (xy_of B i) v || is_prefix (xy_of B (other i)) v)

      member_there : going ≡ true → Member B family v i (member_of B family i v)
      member_there e = member_of_begins B family i v (ltb-true (member_of B family i v) (length B) (member_two v ∙ (simp and-eq-true_iff at e).1))

      fitting_three : going ≡ false → fitting B family i (member_of B family i v) u v p ≡ pair_fitting B i (other i) u v p
      unfolding fitting pair_fitting
      fitting_three e = rw (a, b, marked_two p, member_two v, e)

      -- v begins with XY of i
      fitting_own : going ≡ true → is_prefix (xy_of B i) v ≡ true → fitting B family i (member_of B family i v) u v p ≡ pair_fitting B i (other i) u v p
      unfolding fitting pair_fitting
      fitting_own e q =
          rw (a, b, marked_two p, member_two v, e, sym (is_own v (member_there e) q), q, or_false (is_prefix (word B i) v) (is_prefix (word B (other i)) v) (other_not_begun v q))

      -- v begins with XY of the other side
      fitting_other : going ≡ true → is_prefix (xy_of B i) v ≡ false → fitting B family i (member_of B family i v) u v p ≡ pair_fitting B i (other i) u v p
      unfolding fitting pair_fitting
      fitting_other e q = rw (a, b, marked_two p, member_two v, e, is_other_lem v (member_there e) q, q, own_not_begun v q)

  fitting_two : (i : ℕ) (u v p : Word) → fitting B family i (member_of B family i v) u v p ≡ pair_fitting B i (other i) u v p
  unfolding fitting pair_fitting
  fitting_two i u v p = ⊎_elim (λ a. rw a) (λ a. ⊎_elim (no_prefix a) (clean_prefix a) (true_or_false (leb (length B) i))) (true_or_false (is_empty u || is_empty v))
    where
      no_prefix : (is_empty u || is_empty v) ≡ false → leb (length B) i ≡ true → fitting B family i (member_of B family i v) u v p ≡ pair_fitting B i (other i) u v p
      no_prefix a b = rw (a, b)

      clean_prefix : (is_empty u || is_empty v) ≡ false → leb (length B) i ≡ false → fitting B family i (member_of B family i v) u v p ≡ pair_fitting B i (other i) u v p
      clean_prefix a b =
          let h = leb-false (length B) i b in
          ⊎_elim
          (λ e. ⊎_elim (fitting_own i h u v p a b e) (fitting_other i h u v p a b e) (true_or_false (is_prefix (xy_of B i) v)))
          (fitting_three i h u v p a b)
          (true_or_false (going i h u v p a b))

  -- row 4 makes the same: what follows the whole word in v, and the tail
  row4_two : (i j : ℕ) (u v p : Word) → i < length B → Member B family v i j → is_prefix (word B j) v ≡ true → row4 B family i j u v ≡ pair_row4 B i (other i) u v p
  unfolding row4 pair_row4
  row4_two i j u v p h o r = ⊎_elim
      (λ q.
      let own : is_prefix (word B i) v ≡ true = subst (λ l. is_prefix (word B l) v ≡ true) (sym (is_own i h v o q)) r in
      rw (own, sym (is_own i h v o q), tail_two i h (drop (len B i) u)))
      (λ q. rw (own_not_begun i h v q, is_other_lem i h v o q, tail_two i h (drop (len B i) u)))
      (true_or_false (is_prefix (xy_of B i) v))

  -- every row makes the same, where it fits first
  makes_two : (i j : ℕ) (u v p : Word) (row : ℕ) → Fits B family i j u v p row → makes B family i j u v p row ≡ pair_makes B i (other i) u v p row
  unfolding makes pair_makes row5
  makes_two i j u v p row (fits1 e) = refl
  makes_two i j u v p row (fits2 a b l) = refl
  makes_two i j u v p row (fits3 c q) = refl
  makes_two i j u v p row (fits4 c m o q r) = row4_two i j u v p c.there o r
  makes_two i j u v p row (fits5 c m o q w) = refl
  makes_two i j u v p row (fits6 c m o a z w) = rw (is_other_lem i c.there v o a)
  makes_two i j u v p row (fits7 c m o a w z) = rw (is_other_lem i c.there v o a)
  makes_two i j u v p row (fits8 c m o a w z) = rw (is_other_lem i c.there v o a)

  pub round_two : (u v p : Word) → round B family u v p ≡ pair_round B u v p
  unfolding round first_row pair_round
  round_two u v p =
      makes_two (clean_relation_prefix B u) (primed_word B family u v) u v p (first_row B family u v p) (fits B family u v p)
      ∙ ap (pair_makes B (clean_relation_prefix B u) (other (clean_relation_prefix B u)) u v p) (fitting_two (clean_relation_prefix B u) u v p)

-- rows that make the same rounds make the same number of them, with the same end
module _ (B : List Word) (family : ℕ → ℕ) (D : List Word) (same : (u v p : Word) → round D family u v p ≡ pair_round B u v p) where
  pub pairs_of_rounds : {u v p : Word} {n : ℕ} {b : Bool} → Rounds D family u v p n b → PairRounds B u v p n b
  pairs_of_rounds {u} {v} {p} (Rounds.ended e) = PairRounds.ended (sym (same u v p) ∙ e)
  pairs_of_rounds {u} {v} {p} (Rounds.goes e r) = PairRounds.goes (sym (same u v p) ∙ e) (pairs_of_rounds r)

  pub rounds_of_pairs : {u v p : Word} {n : ℕ} {b : Bool} → PairRounds B u v p n b → Rounds D family u v p n b
  rounds_of_pairs {u} {v} {p} (PairRounds.ended e) = Rounds.ended (same u v p ∙ e)
  rounds_of_pairs {u} {v} {p} (PairRounds.goes e r) = Rounds.goes (same u v p ∙ e) (rounds_of_pairs r)

-- where no word is on two sides, a family has the two words of a relation
twos_of_once : (relations : List Relation) → NoneShared relations → Twos (words_of relations) (family_of relations)
twos_of_once relations once =
    record {
      other_kin = λ i h.
          let j = other_there (length (words_of relations)) i (subst Even (sym (distinct_of_once (relation_words relations) once)) (even_sides relations)) h in
          record { here = h; there = j; same = (family_of_once relations once i (other i) (there i h) (there (other i) j)).1 (inr refl) };
      two = λ i j k. ⊎_elim (λ e. inl (sym e)) inr ((family_of_once relations once i j (there i k.here) (there j k.there)).0 k.same);
    }
  where
    there : (i : ℕ) → i < length (words_of relations) → i < length (relation_words relations)
    there i h = subst (λ (n : ℕ). i < n) (ap length (distinct_of_once (relation_words relations) once)) h

pub pairs_unchanged : PairsUnchanged
pairs_unchanged relations once c =
    let words = distinct_of_once (relation_words relations) once in
    let same : (u v p : Word) → round (words_of relations) (family_of relations) u v p ≡ pair_round (relation_words relations) u v p = λ u v p.
    round_two (rigid_of_c4 (words_of relations) c) (family_of relations) (twos_of_once relations once) u v p ∙ ap (λ B. pair_round B u v p) words in
    record {
      words = words;
      round = same;
      rounds = λ u v p n b. (
        pairs_of_rounds (relation_words relations) (family_of relations) (words_of relations) same,
        rounds_of_pairs (relation_words relations) (family_of relations) (words_of relations) same,
      );
    }
