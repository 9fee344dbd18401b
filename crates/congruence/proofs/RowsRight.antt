-- Rows 3 to 8 of a round are right, for families of any size: document 003, Lemma 4 and the lines of the proof of Lemma 5 that have a clean relation prefix.
-- The question of a round is whether u and v are congruent and p is a possible prefix of u; each row keeps its answer, both ways.
-- Relation word i is the clean relation prefix of u; v begins with XY of i, or of a member j of its family that is other than i.
use Prim.Native.Nat.{ℕ, ◌-◌}
use mathlib.Core.Bool.{true, false, ◌&&◌, true≢false, and-eq-true_iff}
use mathlib.Core.List.{List, [], ◌++◌, append_cancel_left}
use mathlib.Core.Path.{◌≡◌, refl, sym, ap, ◌∙◌, subst}
use mathlib.Core.Logic.{⊎_elim, ◌⊎◌, ◌↔◌}
use lib.ListN.{length, take, drop}
use Rattle.words.specs.Words.{Word, is_prefix, common_suffix}
use Rattle.words.proofs.Prefixes.{prefix_split, prefix_append}
use Rattle.words.proofs.CommonSuffixes.{longest_suffix}
use Rattle.overlap.specs.Pieces.{word}
use Rattle.overlap.specs.Cuts.{len, xylen, x_of, xy_of, z_of}
use Rattle.overlap.proofs.Facts.{length_xy}
use Rattle.congruence.specs.Rows.{Next, row5, row6, row7, row8}
use Rattle.congruence.specs.Rows.Next.{end, go}
use Rattle.congruence.proofs.Heads.{Facts, Clean}
use Rattle.congruence.proofs.RowTests.{by_choose, test_of_head}
use Rattle.congruence.proofs.Places.{xy_z}
use Rattle.congruence.proofs.Chains.{Kin, Chain, chain_sym, chain_from, chain_to}
use Rattle.congruence.proofs.Chains.Chain.{stop}
use Rattle.congruence.proofs.Activity.{InnerFactor, inner_z, inner_rest}
use Rattle.congruence.proofs.Activity.InnerFactor.{nothing}
use Rattle.congruence.proofs.Merges.{Meets, Unlike, reached, reached_prefix}
use Rattle.congruence.proofs.CleanPrefixes.{PossiblePrefix, Parted, wholes_iff, rests_of_same, rests_of_left, rests_of_right, parted_of_unlikes}
use Rattle.congruence.proofs.PossiblePrefixes.{possible_nothing, possible_of_x, x_of_possible, possible_of_turn}

-- the question of a round
abbrev pub Both : List Word → (ℕ → ℕ) → Word → Word → Word → Type 0
Both B fam u v p = Chain B fam u v × PossiblePrefix B fam p u

-- what a row says of it: the answer, or that the next words and mark have the same answer; and the mark is an end again
abbrev pub Says : List Word → (ℕ → ℕ) → Word → Word → Word → Next → Type 0
Says B fam u v p (end true) = Both B fam u v p
Says B fam u v p (end false) = Both B fam u v p → ⊥
Says B fam u v p (go u' v' p') = (Both B fam u v p ↔ Both B fam u' v' p') × InnerFactor B p'

-- p is a prefix of the X of some member of i's family, as row 3 asks
abbrev pub Marked : List Word → (ℕ → ℕ) → ℕ → Word → Type 0
Marked B fam i p = (l : ℕ) × Kin B fam i l × (is_prefix p (x_of B l) ≡ true)

-- a word that does not pass the test begins otherwise
pub unlike_of_test : (z s : Word) → is_prefix z s ≡ false → Unlike z s
unlike_of_test z s e r q = true≢false (sym (subst (λ (w : Word). is_prefix z w ≡ true) (sym q) (prefix_append z r)) ∙ e)

-- what begins with XY, or with a relation word, cut behind it
pub cut_xy : (B : List Word) (i : ℕ) (w : Word) → is_prefix (xy_of B i) w ≡ true → w ≡ xy_of B i ++ drop (xylen B i) w
cut_xy B i w e = sym (ap (λ (n : ℕ). xy_of B i ++ drop n w) (sym (length_xy B i)) ∙ prefix_split (xy_of B i) w e)

pub cut_word : (B : List Word) (i : ℕ) (w : Word) → is_prefix (word B i) w ≡ true → w ≡ word B i ++ drop (len B i) w
cut_word B i w e = sym (prefix_split (word B i) w e)

-- XY with Z behind it is the relation word
pub unlike_of_word : (B : List Word) (i : ℕ) (w s : Word) → w ≡ xy_of B i ++ s → is_prefix (word B i) w ≡ false → Unlike (z_of B i) s
unlike_of_word B i w s q e r o =
    let y : w ≡ word B i ++ r = q ∙ ap (xy_of B i ++◌) o ∙ xy_z B i r in
    true≢false (sym (subst (λ (x : Word). is_prefix (word B i) x ≡ true) (sym y) (prefix_append (word B i) r)) ∙ e)

module _ {B : List Word} (R : Facts B) (fam : ℕ → ℕ) (i : ℕ) (u v p : Word) (h : Clean B u 0 i) where
  -- what stands behind XY in u
  abbrev s : Word
  s = drop (xylen B i) u

  u_is : u ≡ xy_of B i ++ s
  u_is = cut_xy B i u (test_of_head h.at)

  clean_s : Clean B (xy_of B i ++ s) 0 i
  clean_s = subst (λ (w : Word). Clean B w 0 i) u_is h

  -- row 3: u is congruent only to words that begin with XY of a member, and only prefixes of a member's X are possible
  pub begins_of_both : Both B fam u v p → (l : ℕ) × Kin B fam i l × (is_prefix (xy_of B l) v ≡ true)
  begins_of_both c =
      let r = reached R clean_s (chain_from (sym u_is) c.0) in
      (r.into, r.kin, subst (λ (w : Word). is_prefix (xy_of B r.into) w ≡ true) (sym r.product) (prefix_append (xy_of B r.into) r.rest))

  pub marked_of_both : InnerFactor B p → Both B fam u v p → Marked B fam i p
  marked_of_both n c = let m = x_of_possible R n clean_s (subst (PossiblePrefix B fam p) u_is c.1) in (m.0, m.1, m.2)

  module _ (x : Marked B fam i p) where
    -- where Z is possible behind XY, p is possible in front
    possible_of_z : (r : Word) → u ≡ xy_of B i ++ r → PossiblePrefix B fam (z_of B i) r → PossiblePrefix B fam p u
    possible_of_z r q c = subst (PossiblePrefix B fam p) (sym q) (possible_of_turn R p x.1 x.2 c)

    -- row 4: whole relation words in front of both, and the tail of a member m serves both
    pub row4_says : (a b : Word) (l : ℕ) → u ≡ word B i ++ a → v ≡ word B l ++ b → Kin B fam i l → (m : ℕ) → Kin B fam i m
        → (Meets B fam i a b → Chain B fam (z_of B m ++ a) (z_of B m ++ b)) → Says B fam u v p (go (z_of B m ++ a) (z_of B m ++ b) [])
    row4_says a b l e f k m q to = (
      (
        λ d. (to ((wholes_iff R a b k).0 (chain_from (sym e) (chain_to d.0 f))), possible_nothing (z_of B m ++ a)),
        λ d. (
          chain_from e (chain_to ((wholes_iff R a b k).1 (record { by = m; kin = q; chain = d.0 })) (sym f)),
          possible_of_z (z_of B i ++ a) (e ∙ sym (xy_z B i a)) (record { rest = a; chain = stop }),
        ),
      ),
      nothing refl,
    )

    -- row 5: the same XY, and not Z behind both
    pub row5_says : (j : ℕ) → InnerFactor B p → is_prefix (xy_of B i) v ≡ true → Unlike (z_of B i) s ⊎ Unlike (z_of B i) (drop (xylen B i) v) → Says B fam u v p (row5 B i j u v p)
    unfolding row5
    row5_says j n q unlike = by_choose (λ (m : Word). Says B fam u v p (go s (drop (xylen B i) v) m)) (is_prefix p (x_of B i)) _ _
        (λ o. (
          (
            λ c. (rests.0 (here c.0), possible_nothing s),
            λ c. (there c.0, subst (PossiblePrefix B fam p) (sym u_is) (possible_of_x p s i (R.some i h.at.there) o)),
          ),
          nothing refl,
        ))
        (λ o. (
          (λ c. (rests.0 (here c.0), z_possible o c.1), λ c. (there c.0, possible_of_z s u_is c.1)),
          inner_z R i h.at.there,
        ))
      where
        v_is : v ≡ xy_of B i ++ drop (xylen B i) v
        v_is = cut_xy B i v q

        rests : Chain B fam (xy_of B i ++ s) (xy_of B i ++ drop (xylen B i) v) ↔ Chain B fam s (drop (xylen B i) v)
        rests = rests_of_same R s (drop (xylen B i) v) clean_s unlike

        here : Chain B fam u v → Chain B fam (xy_of B i ++ s) (xy_of B i ++ drop (xylen B i) v)
        here c = chain_from (sym u_is) (chain_to c v_is)

        there : Chain B fam s (drop (xylen B i) v) → Chain B fam u v
        there c = chain_from u_is (chain_to (rests.1 c) (sym v_is))

        z_possible : is_prefix p (x_of B i) ≡ false → PossiblePrefix B fam p u → PossiblePrefix B fam (z_of B i) s
        z_possible o c =
            let m = x_of_possible R n clean_s (subst (PossiblePrefix B fam p) u_is c) in
            ⊎_elim (λ w. absurd (true≢false (sym (subst (λ (l : ℕ). is_prefix p (x_of B l) ≡ true) (sym w) m.2) ∙ o))) (λ w. w) m.3

    -- rows 6 to 8: v begins with XY of another member
    module _ (j : ℕ) (k : Kin B fam i j) (d : i ≡ j → ⊥) (y : is_prefix (xy_of B j) v ≡ true) where
      -- what stands behind XY of j in v
      abbrev t : Word
      t = drop (xylen B j) v

      v_is : v ≡ xy_of B j ++ t
      v_is = cut_xy B j v y

      -- p is possible in front of u if u and v are congruent
      possible_by_other : Chain B fam u v → PossiblePrefix B fam p u
      possible_by_other c = possible_of_z s u_is (⊎_elim (λ a. absurd (d a.0)) (λ a. record { rest = a.left; chain = chain_sym a.from })
          (reached_prefix R {t = t} clean_s k.there (chain_from (sym u_is) (chain_to c v_is))).1)

      -- row 6: Z does not stand behind XY in u, and v begins with all of relation word j
      pub row6_says : is_prefix (z_of B i) s ≡ false → is_prefix (word B j) v ≡ true → Says B fam u v p (row6 B i j u v p)
      unfolding row6
      row6_says m w = ((to, from), nothing refl)
        where
          v_word : v ≡ word B j ++ drop (len B j) v
          v_word = cut_word B j v w

          rests : Chain B fam (xy_of B i ++ s) (word B j ++ drop (len B j) v) ↔ Chain B fam s (z_of B i ++ drop (len B j) v)
          rests = rests_of_left R s (drop (len B j) v) clean_s k d (unlike_of_test (z_of B i) s m)

          to : Both B fam u v p → Both B fam s (z_of B i ++ drop (len B j) v) []
          to c = (rests.0 (chain_from (sym u_is) (chain_to c.0 v_word)), possible_nothing s)

          from : Both B fam s (z_of B i ++ drop (len B j) v) [] → Both B fam u v p
          from c = let e = chain_from u_is (chain_to (rests.1 c.0) (sym v_word)) in (e, possible_by_other e)

      -- row 7: u begins with all of relation word i, and Z' does not stand behind X'Y' in v
      pub row7_says : is_prefix (word B i) u ≡ true → is_prefix (z_of B j) t ≡ false → Says B fam u v p (row7 B i j u v p)
      unfolding row7
      row7_says w m = ((to, from), nothing refl)
        where
          u_word : u ≡ word B i ++ drop (len B i) u
          u_word = cut_word B i u w

          rests : Chain B fam (word B i ++ drop (len B i) u) (xy_of B j ++ t) ↔ Chain B fam (z_of B j ++ drop (len B i) u) t
          rests = rests_of_right R (drop (len B i) u) t k d (unlike_of_test (z_of B j) t m)

          to : Both B fam u v p → Both B fam (z_of B j ++ drop (len B i) u) t []
          to c = (rests.0 (chain_from (sym u_word) (chain_to c.0 v_is)), possible_nothing (z_of B j ++ drop (len B i) u))

          from : Both B fam (z_of B j ++ drop (len B i) u) t [] → Both B fam u v p
          from c = let e = chain_to (chain_from u_word (rests.1 c.0)) (sym v_is) in (e, possible_by_other e)

      -- row 8's e, f and z: Z = e z and Z' = f z with the longest common suffix z
      abbrev e : Word
      e = take (length (z_of B i) - common_suffix (z_of B i) (z_of B j)) (z_of B i)

      abbrev f : Word
      f = take (length (z_of B j) - common_suffix (z_of B i) (z_of B j)) (z_of B j)

      abbrev z : Word
      z = drop (length e) (z_of B i)

      -- row 8: Z behind neither
      pub row8_says : is_prefix (z_of B i) s ≡ false → is_prefix (z_of B j) t ≡ false → Says B fam u v p (row8 B i j u v p)
      unfolding row8
      row8_says a b = by_choose (Says B fam u v p) (is_prefix e s && is_prefix f t) _ _ (λ q. goes (simp and-eq-true_iff at q)) stops
        where
          parted : Chain B fam (xy_of B i ++ s) (xy_of B j ++ t) ↔ Parted B fam e f z s t
          parted = parted_of_unlikes R s t clean_s k d (unlike_of_test (z_of B i) s a) (unlike_of_test (z_of B j) t b) (longest_suffix (z_of B i) (z_of B j))

          here : Chain B fam u v → Chain B fam (xy_of B i ++ s) (xy_of B j ++ t)
          here c = chain_from (sym u_is) (chain_to c v_is)

          stops : (is_prefix e s && is_prefix f t) ≡ false → Both B fam u v p → ⊥
          stops q c =
              let m = parted.0 (here c.0) in
              let l : is_prefix e s ≡ true = subst (λ (w : Word). is_prefix e w ≡ true) (sym m.split_left) (prefix_append e m.left) in
              let r : is_prefix f t ≡ true = subst (λ (w : Word). is_prefix f w ≡ true) (sym m.split_right) (prefix_append f m.right) in
              let both : (is_prefix e s && is_prefix f t) ≡ true = simp and-eq-true_iff (l, r) in
              true≢false (sym both ∙ q)

          goes : (is_prefix e s ≡ true) × (is_prefix f t ≡ true) → (Both B fam u v p ↔ Both B fam (drop (length e) s) (drop (length f) t) z) × InnerFactor B z
          goes q = ((to, from), inner_rest (length e) (inner_z R i k.here))
            where
              to : Both B fam u v p → Both B fam (drop (length e) s) (drop (length f) t) z
              to c =
                  let m = parted.0 (here c.0) in
                  let l : m.left ≡ drop (length e) s = append_cancel_left e m.left (drop (length e) s) (sym m.split_left ∙ sym (prefix_split e s q.0)) in
                  let r : m.right ≡ drop (length f) t = append_cancel_left f m.right (drop (length f) t) (sym m.split_right ∙ sym (prefix_split f t q.1)) in
                  (chain_from (sym l) (chain_to m.chain r), subst (PossiblePrefix B fam z) l m.possible)

              from : Both B fam (drop (length e) s) (drop (length f) t) z → Both B fam u v p
              from c =
                  let r = chain_from u_is (chain_to (parted.1 (record {
                    left = drop (length e) s;
                    right = drop (length f) t;
                    split_left = sym (prefix_split e s q.0);
                    split_right = sym (prefix_split f t q.1);
                    chain = c.0;
                    possible = c.1;
                  })) (sym v_is)) in
                  (r, possible_by_other r)
