-- The rows are right, for families of any size: document 003, Lemma 5. A round keeps the answer to its question, and where the rows end their answer is whether
-- a chain of the families joins the two words (document 01: whether a chain joins the two runs).
use Prim.Native.Nat.{ℕ, ◌≤◌, ◌<◌}
use mathlib.Core.Bool.{Bool, true, false, ◌&&◌, ◌||◌, not, true≢false, and-eq-true_iff}
use mathlib.Core.List.{List, [], ◌∷◌, ◌++◌, cons≢nil}
use mathlib.Core.Path.{◌≡◌, refl, sym, ap, ◌∙◌, subst}
use mathlib.Core.Logic.{by_cases, ⊎_elim, ◌⊎◌, inl, inr}
use native.Mathlib.Omega.{arith}
use native.Mathlib.Decide.{dec_lt, ℕ_discrete}
use lib.Dec.{eqb, ltb}
use borrow.Author.Tests.{eqb-true, eq-eqb, ne_eqb, ltb-true, ltb-false, lt-ltb}
use lib.ListN.{length, drop}
use Rattle.words.specs.Words.{Word, is_empty, is_prefix}
use Rattle.words.proofs.Tests.{true_or_false, false_of}
use Rattle.words.proofs.Searching.{any_of, any_found, least_passes, least_first}
use Rattle.overlap.specs.Pieces.{word}
use Rattle.overlap.specs.Cuts.{len, xylen, xy_of, z_of}
use Rattle.congruence.specs.Rows.{clean_relation_prefix, active, marked, marked_by_any, begun, member_of, is_other, first_other, first_active, tail_member, primed_word, row1, row2, row4, makes, round}
use Rattle.congruence.specs.Rows.Next.{end}
use Rattle.congruence.specs.Rounds.{Rounds}
use Rattle.congruence.specs.Rounds.Rounds.{ended, goes}
use Rattle.congruence.proofs.Heads.{Facts, Clean}
use Rattle.congruence.proofs.RowTests.{by_choose, one_prefix, prefix_of_clean, clean_of_test, clean_relation_prefix_none, active_found, active_none}
use Rattle.congruence.proofs.FirstRow.{CleanPrefix, Member, Fits, fits}
use Rattle.congruence.proofs.FirstRow.Fits.{fits1, fits2, fits3, fits4, fits5, fits6, fits7, fits8}
use Rattle.congruence.proofs.Chains.{Kin, Chain, kin_refl, chain_sym, chain_behind}
use Rattle.congruence.proofs.Chains.Chain.{stop}
use Rattle.congruence.proofs.Activity.{InnerFactor, inner_z, inner_rest, hangs_of_prefix}
use Rattle.congruence.proofs.Activity.InnerFactor.{nothing}
use Rattle.congruence.proofs.Merges.{Meets, Unlike, chain_of_active, chain_of_inactive}
use Rattle.congruence.proofs.PossiblePrefixes.{possible_nothing, chain_of_rests, possible_of_rests, empty_stays}
use Rattle.congruence.proofs.RowsRight.{Both, Says, Marked, unlike_of_word, cut_xy, cut_word, begins_of_both, marked_of_both, row4_says, row5_says, row6_says, row7_says, row8_says}

module _ {B : List Word} (R : Facts B) (family : ℕ → ℕ) where
  -- row 1: the empty word is congruent to itself alone
  row1_says : (u v p : Word) → (is_empty u || is_empty v) ≡ true → Says B family u v p (row1 u v p)
  unfolding row1
  row1_says [] [] [] e = (stop, possible_nothing [])
  row1_says [] [] (w ∷ p) e = λ c. cons≢nil (empty_stays R (chain_sym c.1.chain))
  row1_says [] (y ∷ v) p e = λ c. cons≢nil (empty_stays R c.0)
  row1_says (x ∷ u) [] p e = λ c. cons≢nil (empty_stays R (chain_sym c.0))
  row1_says (x ∷ u) (y ∷ v) p e = absurd (true≢false (sym e))

  -- row 2: no clean relation prefix, so the first letter stays
  row2_says : (u v p : Word) → InnerFactor B p → 0 < length u → 0 < length v → ((i : ℕ) → Clean B u 0 i → ⊥) → Says B family u v p (row2 u v p)
  unfolding row2
  row2_says [] v p n a b none = absurd (omega arith)
  row2_says (x ∷ u) [] p n a b none = absurd (omega arith)
  row2_says (x ∷ u) (y ∷ v) [] n a b none = by_choose (Says B family (x ∷ u) (y ∷ v) []) (eqb x y && true) _ _
      (λ q.
      let r = simp and-eq-true_iff at q in (
        (
          (λ c. (((chain_of_rests R none y v).0 c.0).1, possible_nothing u)),
          (λ c. ((chain_of_rests R none y v).1 (eqb-true x y r.0, c.0), possible_nothing (x ∷ u))),
        ),
        nothing refl,
      ))
      (λ q c.
      let yes_2 : (eqb x y && true) ≡ true = simp and-eq-true_iff (eq-eqb x y ((chain_of_rests R none y v).0 c.0).0, refl) in
      true≢false (sym yes_2 ∙ q))
  row2_says (x ∷ u) (y ∷ v) (w ∷ p) n a b none = by_choose (Says B family (x ∷ u) (y ∷ v) (w ∷ p)) (eqb x y && eqb w x) _ _
      (λ q.
      let r = simp and-eq-true_iff at q in (
        (
          (λ c. (((chain_of_rests R none y v).0 c.0).1, ((possible_of_rests R none w p).0 c.1).1)),
          (λ c. ((chain_of_rests R none y v).1 (eqb-true x y r.0, c.0), (possible_of_rests R none w p).1 (eqb-true w x r.1, c.1))),
        ),
        inner_rest 1 n,
      ))
      (λ q c.
      let d = eq-eqb x y ((chain_of_rests R none y v).0 c.0).0 in
      let e = eq-eqb w x ((possible_of_rests R none w p).0 c.1).0 in
      let yes_2 : (eqb x y && eqb w x) ≡ true = simp and-eq-true_iff (d, e) in
      true≢false (sym yes_2 ∙ q))

  -- the tests for a mark and for a member find one wherever there is one
  pub marked_by_any_lem : (i : ℕ) (p : Word) → Marked B family i p → marked_by_any B family i p ≡ true
  unfolding marked_by_any marked
  marked_by_any_lem i p m = any_of (length B) (marked B family i p) m.0 m.1.there (simp and-eq-true_iff (eq-eqb (family i) (family m.0) m.1.same, m.2))

  pub marked_found : (i : ℕ) (p : Word) → i < length B → marked_by_any B family i p ≡ true → Marked B family i p
  unfolding marked_by_any marked
  marked_found i p h e =
      let f = any_found (length B) (marked B family i p) e in
      let r = simp and-eq-true_iff at f.2 in
      (f.0, record { here = h; there = f.1; same = eqb-true (family i) (family f.0) r.0 }, r.1)

  pub member_found : (i : ℕ) (v : Word) (l : ℕ) → Kin B family i l → is_prefix (xy_of B l) v ≡ true → member_of B family i v < length B
  unfolding member_of begun
  member_found i v l k e = by_cases (dec_lt (member_of B family i v) (length B)) (λ a. a) (λ a.
      let found : begun B family i v l ≡ true = simp and-eq-true_iff (eq-eqb (family i) (family l) k.same, e) in
      let t = k.there in
      absurd (true≢false (sym found ∙ (least_first (length B) (begun B family i v)).none l (omega arith))))

  -- row 4: the tail of member m serves both words
  abbrev Serves : ℕ → Word → ℕ → Type 0
  Serves i a m = Kin B family i m × ((b : Word) → Meets B family i a b → Chain B family (z_of B m ++ a) (z_of B m ++ b))

  -- it does where the rest of u is active for it
  serves_active : (i : ℕ) (a : Word) (m : ℕ) → Kin B family i m → active B (z_of B m) a ≡ true → Serves i a m
  serves_active i a m k e =
      let d = active_found R (z_of B m) a e in
      (k, λ b g. chain_of_active R g k (hangs_of_prefix R (inner_z R m k.there) d.3 d.2))

  -- and where it is active for none
  serves_inactive : (i : ℕ) (a : Word) (m : ℕ) → Kin B family i m → ((c : ℕ) → Kin B family i c → active B (z_of B c) a ≡ false) → Serves i a m
  serves_inactive i a m k none = (k, λ b g. chain_behind (z_of B m) (chain_of_inactive R g (λ c q. active_none R (z_of B c) a (none c q))))

  pub kin_of_other : (i j : ℕ) → i < length B → j < length B → is_other family i j ≡ true → Kin B family i j
  unfolding is_other
  kin_of_other i j h l e = record { here = h; there = l; same = eqb-true (family i) (family j) (simp and-eq-true_iff at e).0 }

  pub other_of_kin : (i j : ℕ) → Kin B family i j → (i ≡ j → ⊥) → is_other family i j ≡ true
  unfolding is_other
  other_of_kin i j k d = simp and-eq-true_iff (eq-eqb (family i) (family j) k.same, ap not (ne_eqb i j d))

  -- active for no member: not for i, and not for any other
  active_for_none : (i : ℕ) (a : Word) → active B (z_of B i) a ≡ false → ltb (first_active B family i a) (length B) ≡ false
      → (c : ℕ) → Kin B family i c → active B (z_of B c) a ≡ false
  unfolding first_active
  active_for_none i a e f c k = by_cases (ℕ_discrete i c)
      (λ q. subst (λ (m : ℕ). active B (z_of B m) a ≡ false) q e)
      (λ q. false_of (active B (z_of B c) a) (λ g.
      let both : (is_other family i c && active B (z_of B c) a) ≡ true = simp and-eq-true_iff (other_of_kin i c k q, g) in
      let l = ltb-false (first_active B family i a) (length B) f in
      let t = k.there in
      true≢false (sym both ∙ (least_first (length B) (λ j. is_other family i j && active B (z_of B j) a)).none c (omega arith))))

  tail_serves : (i : ℕ) (a : Word) → i < length B → Serves i a (tail_member B family i a)
  unfolding tail_member first_active first_other
  tail_serves i a h =
      by_choose (Serves i a) (active B (z_of B i) a) _ _ (serves_active i a i (kin_refl h)) (λ e.
      by_choose (Serves i a) (ltb (first_active B family i a) (length B)) _ _ first_active_lem (λ f.
      by_choose (Serves i a) (ltb (first_other B family i) (length B)) _ _
      (λ g. serves_inactive i a (first_other B family i) (first_other_lem g) (active_for_none i a e f))
      (λ g. serves_inactive i a i (kin_refl h) (active_for_none i a e f))))
    where
      first_active_lem : ltb (first_active B family i a) (length B) ≡ true → Serves i a (first_active B family i a)
      first_active_lem f =
          let l = ltb-true (first_active B family i a) (length B) f in
          let r = simp and-eq-true_iff at (least_passes (length B) (λ j. is_other family i j && active B (z_of B j) a) l) in
          serves_active i a (first_active B family i a) (kin_of_other i (first_active B family i a) h l r.0) r.1

      first_other_lem : ltb (first_other B family i) (length B) ≡ true → Kin B family i (first_other B family i)
      first_other_lem f =
          let l = ltb-true (first_other B family i) (length B) f in
          kin_of_other i (first_other B family i) h l (least_passes (length B) (is_other family i) l)

  -- the rows with a clean relation prefix: relation word i in front of u, and j the member of its family that v begins with
  module _ (i j : ℕ) (u v p : Word) (c : CleanPrefix B u i) where
    h : Clean B u 0 i
    h = clean_of_test R u i c.there c.clean

    -- row 3: u is congruent only to words that begin with XY of a member, and only prefixes of a member's X are possible
    row3_says : InnerFactor B p → j ≡ member_of B family i v → (marked_by_any B family i p && ltb j (length B)) ≡ false → Both B family u v p → ⊥
    row3_says n y q d =
        let a = marked_by_any_lem i p (marked_of_both R family i u v p h n d) in
        let b = begins_of_both R family i u v p h d in
        let l = member_found i v b.0 b.1 b.2 in
        let both : (marked_by_any B family i p && ltb j (length B)) ≡ true = simp and-eq-true_iff (a, lt-ltb j (length B) (subst (λ m. m < length B) (sym y) l)) in
        true≢false (sym both ∙ q)

    module _ (m : marked_by_any B family i p ≡ true) (o : Member B family v i j) where
      x : Marked B family i p
      x = marked_found i p c.there m

      k : Kin B family i j
      k = record { here = c.there; there = o.there; same = o.kin }

      row4_tails : is_prefix (word B i) u ≡ true → is_prefix (word B j) v ≡ true → Says B family u v p (row4 B family i j u v)
      unfolding row4
      row4_tails q r =
          let s = tail_serves i (drop (len B i) u) c.there in
          row4_says R family i u v p h x (drop (len B i) u) (drop (len B j) v) j (cut_word B i u q) (cut_word B j v r) k
          (tail_member B family i (drop (len B i) u)) s.0 (s.1 (drop (len B j) v))

      -- row 5: j is i, and Z does not stand behind XY in both words
      unlike : is_prefix (xy_of B i) v ≡ true → (is_prefix (word B i) u && is_prefix (word B j) v) ≡ false
          → Unlike (z_of B i) (drop (xylen B i) u) ⊎ Unlike (z_of B i) (drop (xylen B i) v)
      unlike q w = ⊎_elim
          (λ a. inr (unlike_of_word B i v (drop (xylen B i) v) (cut_xy B i v q) (false_of (is_prefix (word B i) v) (λ b.
          let one = one_prefix R v i j c.there o.there q o.begins in
          let both : (is_prefix (word B i) u && is_prefix (word B j) v) ≡ true = simp and-eq-true_iff (a, subst (λ (l : ℕ). is_prefix (word B l) v ≡ true) one b) in
          true≢false (sym both ∙ w)))))
          (λ a. inl (unlike_of_word B i u (drop (xylen B i) u) (cut_xy B i u (prefix_of_clean B u i c.clean)) a))
          (true_or_false (is_prefix (word B i) u))

      -- rows 6 to 8: v does not begin with XY of i, so j is another
      another : is_prefix (xy_of B i) v ≡ false → i ≡ j → ⊥
      another a e = true≢false (sym (subst (λ (l : ℕ). is_prefix (xy_of B l) v ≡ true) (sym e) o.begins) ∙ a)

  -- every row, where it fits first
  row_says : (i j : ℕ) (u v p : Word) (row : ℕ) → InnerFactor B p → j ≡ member_of B family i v → (length B ≤ i → (l : ℕ) → Clean B u 0 l → ⊥)
      → Fits B family i j u v p row → Says B family u v p (makes B family i j u v p row)
  unfolding makes
  row_says i j u v p row n y none (fits1 e) = row1_says u v p e
  row_says i j u v p row n y none (fits2 a b l) = row2_says u v p n a b (none l)
  row_says i j u v p row n y none (fits3 c q) = row3_says i j u v p c n y q
  row_says i j u v p row n y none (fits4 c m o q r) = row4_tails i j u v p c m o q r
  row_says i j u v p row n y none (fits5 c m o q w) =
      row5_says R family i u v p (h i j u v p c) (x i j u v p c m o) j n q (unlike i j u v p c m o q w)
  row_says i j u v p row n y none (fits6 c m o a z w) =
      row6_says R family i u v p (h i j u v p c) (x i j u v p c m o) j (k i j u v p c m o) (another i j u v p c m o a) o.begins z w
  row_says i j u v p row n y none (fits7 c m o a w z) =
      row7_says R family i u v p (h i j u v p c) (x i j u v p c m o) j (k i j u v p c m o) (another i j u v p c m o a) o.begins w z
  row_says i j u v p row n y none (fits8 c m o a w z) =
      row8_says R family i u v p (h i j u v p c) (x i j u v p c m o) j (k i j u v p c m o) (another i j u v p c m o a) o.begins w z

  -- a round gives the answer, or keeps it; and the next mark is a mark
  pub round_says : (u v p : Word) → InnerFactor B p → Says B family u v p (round B family u v p)
  unfolding round
  round_says u v p n =
      row_says (clean_relation_prefix B u) (primed_word B family u v) u v p _ n refl
      (λ l. clean_relation_prefix_none R u (λ a. absurd (omega arith))) (fits B family u v p)

  -- rounds from a mark
  rounds_from_right : {u v p : Word} {n : ℕ} {b : Bool} → InnerFactor B p → Rounds B family u v p n b → (b ≡ true → Both B family u v p) × (b ≡ false → Both B family u v p → ⊥)
  rounds_from_right {u} {v} {p} m (ended {b = b} e) = answered b (subst (Says B family u v p) e (round_says u v p m))
    where
      answered : (b : Bool) → Says B family u v p (end b) → (b ≡ true → Both B family u v p) × (b ≡ false → Both B family u v p → ⊥)
      answered true s = ((λ q. s), (λ q. absurd (true≢false q)))
      answered false s = ((λ q. absurd (true≢false (sym q))), (λ q. s))
  rounds_from_right {u} {v} {p} m (goes e c) =
      let r = subst (Says B family u v p) e (round_says u v p m) in
      let d = rounds_from_right r.1 c in
      ((λ q. r.0.1 (d.0 q)), (λ q a. d.1 q (r.0.0 a)))

  -- the answer of a comparison: it begins with the empty mark
  pub rounds_right : {u v : Word} {n : ℕ} {b : Bool} → Rounds B family u v [] n b → (b ≡ true → Chain B family u v) × (b ≡ false → Chain B family u v → ⊥)
  rounds_right {u} {v} {n} {b} c =
      let d = rounds_from_right (nothing refl) c in
      ((λ q. (d.0 q).0), (λ q a. d.1 q (a, possible_nothing u)))
