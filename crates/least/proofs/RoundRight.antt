-- Every round is right, for families of any size: what the tests of `write_part` say, and by them which branch goes on.
use Prim.Native.Nat.{ℕ, ◌+◌, ◌-◌, ◌≤◌, ◌<◌}
use mathlib.Core.Bool.{true, false, ◌&&◌, ◌||◌, not, true≢false, and-eq-true_iff}
use mathlib.Core.List.{List, [], ◌∷◌, ◌++◌, append-nil, cons≢nil}
use mathlib.Core.Logic.{by_cases, ⊎_elim, ◌⊎◌, inl, inr}
use mathlib.Core.Path.{◌≡◌, refl, sym, ap, ◌∙◌, subst}
use native.Mathlib.Omega.{arith}
use native.Mathlib.Decide.{dec_lt}
use borrow.Author.Tests.{eqb-true, eqb-false, eq-eqb, leb-true, leb-false, ltb-true, not-true, lt-ltb}
use lib.Dec.{eqb, leb, ltb}
use lib.ListN.{length, take, drop, take-append-drop}
use lib.Seq.{drop-drop}
use Rattle.words.specs.Search.{least}
use Rattle.words.specs.Words.{Word, is_empty, is_prefix, common_suffix}
use Rattle.words.proofs.Tests.{or_found, or_neither, false_of}
use Rattle.words.proofs.Prefixes.{prefix_split, prefix_append}
use Rattle.words.proofs.Searching.{least_bound, least_passes, least_first}
use Rattle.words.proofs.CommonSuffixes.{suffix_within, longest_suffix}
use Rattle.overlap.specs.Pieces.{word}
use Rattle.overlap.specs.Cuts.{len, xylen, x_of, xy_of, z_of}
use Rattle.overlap.proofs.Facts.{length_z, z_bound}
use Rattle.congruence.specs.Rows.{choose, clean_relation_prefix, active, marked}
use Rattle.congruence.proofs.Heads.{Facts, Clean}
use Rattle.congruence.proofs.RowTests.{by_choose, test_of_head, clean_relation_prefix_clean, clean_relation_prefix_none, active_found, active_none}
use Rattle.congruence.proofs.Chains.{Kin, Chain, kin_refl, chain_sym, chain_behind, chain_to}
use Rattle.congruence.proofs.Chains.Chain.{stop}
use Rattle.congruence.proofs.Activity.{inner_z, hangs_of_prefix}
use Rattle.congruence.proofs.Merges.{Meets, Unlike}
use Rattle.congruence.proofs.CleanPrefixes.{PossiblePrefix}
use Rattle.congruence.proofs.PossiblePrefixes.{first_stays, chain_of_rests, empty_stays}
use Rattle.congruence.proofs.RowsRight.{unlike_of_test, cut_xy}
use Rattle.least.specs.Order.{Injective, AtMost}
use Rattle.least.specs.Possible.{possible}
use Rattle.least.specs.Writing.{clean_before, letter_part, first_member, chosen_member, carrier, whole_part, other_part, member_part, write_part}
use Rattle.least.specs.Writing.Part.{end, none, part}
use Rattle.least.proofs.Order.{at_most_behind}
use Rattle.least.proofs.Marks.{Marking, marking_drop, marking_nothing, marking_z, x_of_marking}
use Rattle.least.proofs.Possible.{possible_right}
use Rattle.least.proofs.Choice.{first_is_first, none_is_marked}
use Rattle.least.proofs.Branches.{Continues, continues_active, continues_inactive, carry_active, carry_inactive, continues_own, continues_unparted, continues_parted}
use Rattle.least.proofs.NextQuestion.{Missing, Says, xy_rest, clean_before_found, clean_before_none, says_part}

-- what is chosen: nobody, where no member that p begins can be reached; or a member that can be reached, whose XY comes first of those
pub data Chosen (B : List Word) (fam rank : ℕ → ℕ) (i : ℕ) (p s : Word) : ℕ → Type 0 where
  nobody : {j : ℕ} → length B ≤ j → ((l : ℕ) → Kin B fam i l → is_prefix p (x_of B l) ≡ true → (i ≡ l) ⊎ PossiblePrefix B fam (z_of B i) s → ⊥) → Chosen B fam rank i p s j
  member : {j : ℕ} → Kin B fam i j → is_prefix p (x_of B j) ≡ true → (i ≡ j) ⊎ PossiblePrefix B fam (z_of B i) s
      → ((l : ℕ) → Kin B fam i l → is_prefix p (x_of B l) ≡ true → (i ≡ l) ⊎ PossiblePrefix B fam (z_of B i) s → AtMost rank (xy_of B j) (xy_of B l)) → Chosen B fam rank i p s j

module _ {B : List Word} (R : Facts B) (fam rank : ℕ → ℕ) where
  -- marked members
  kin_of_marked : (i : ℕ) (p : Word) (j : ℕ) → i < length B → j < length B → marked B fam i p j ≡ true → Kin B fam i j × (is_prefix p (x_of B j) ≡ true)
  unfolding marked
  kin_of_marked i p j h l e = let r = simp and-eq-true_iff at e in (record { here = h; there = l; same = eqb-true (fam i) (fam j) r.0 }, r.1)

  marked_of_kin : {i j : ℕ} (p : Word) → Kin B fam i j → is_prefix p (x_of B j) ≡ true → marked B fam i p j ≡ true
  unfolding marked
  marked_of_kin {i} {j} p k e = simp and-eq-true_iff (eq-eqb (fam i) (fam j) k.same, e)

  module _ (injective : Injective rank) (i : ℕ) (h : i < length B) (p s : Word) where
    abbrev t : ℕ
    t = first_member B fam rank i p

    -- the first member, where all marked members can be reached or it is i itself
    chosen_first : (i ≡ t) ⊎ PossiblePrefix B fam (z_of B i) s → Chosen B fam rank i p s t
    chosen_first reach = by_cases (dec_lt t (length B))
        (λ a.
        let f = first_is_first injective B fam i p a in
        let k = kin_of_marked i p t h a f.0 in
        member k.0 k.1 reach (λ l m e how. f.1 l m.there (marked_of_kin p m e)))
        (λ a. nobody (omega arith) (λ l m e how. none_is_marked injective B fam i p (omega arith) l m.there (marked_of_kin p m e)))

    chosen : Chosen B fam rank i p s (chosen_member B fam rank i p s)
    unfolding chosen_member
    chosen = by_choose (Chosen B fam rank i p s) (eqb t i || possible B fam (z_of B i) s) _ _
        (λ a. chosen_first (⊎_elim
        (λ b. inl (sym (eqb-true t i b)))
        (λ b. inr ((possible_right R fam (z_of B i) s (marking_z R i h)).0 b))
        (or_found (eqb t i) (possible B fam (z_of B i) s) a)))
        (λ a.
        let n : PossiblePrefix B fam (z_of B i) s → ⊥ = λ q. true≢false (sym ((possible_right R fam (z_of B i) s (marking_z R i h)).1 q) ∙ (or_neither (eqb t i) (possible B fam (z_of B i) s) a).1) in
        by_choose (Chosen B fam rank i p s) (is_prefix p (x_of B i)) _ _
        (λ b. member (kin_refl h) b (inl refl) (λ l k e how. ⊎_elim (λ o. inl (ap (xy_of B) o)) (λ q. absurd (n q)) how))
        (λ b. nobody (omega arith) (λ l k e how. ⊎_elim
        (λ o. true≢false (sym (subst (λ (y : ℕ). is_prefix p (x_of B y) ≡ true) (sym o) e) ∙ b))
        n how)))

  -- the carrier tells what meets w
  carries : (i : ℕ) (w : Word) → i < length B → Kin B fam i (carrier B fam i w)
      × ((r : Word) → Meets B fam i w r → Chain B fam (z_of B (carrier B fam i w) ++ w) (z_of B (carrier B fam i w) ++ r))
  unfolding carrier
  carries i w h = by_choose (λ (c : ℕ). Kin B fam i c × ((r : Word) → Meets B fam i w r → Chain B fam (z_of B c ++ w) (z_of B c ++ r)))
      (ltb (least (length B) (λ j. eqb (fam i) (fam j) && active B (z_of B j) w)) (length B)) _ _
      (λ a.
      let l = ltb-true (least (length B) (λ j. eqb (fam i) (fam j) && active B (z_of B j) w)) (length B) a in
      let r = simp and-eq-true_iff at (least_passes (length B) (λ j. eqb (fam i) (fam j) && active B (z_of B j) w) l) in
      let c = least (length B) (λ j. eqb (fam i) (fam j) && active B (z_of B j) w) in
      let k : Kin B fam i c = record { here = h; there = l; same = eqb-true (fam i) (fam c) r.0 } in
      let f = active_found R (z_of B c) w r.1 in
      (k, carry_active R w k (hangs_of_prefix R (inner_z R c l) f.3 f.2)))
      (λ a. (kin_refl h, carry_inactive R i w (λ l k. active_none R (z_of B l) w (inactive l k a))))
    where
      inactive : (l : ℕ) → Kin B fam i l → ltb (least (length B) (λ j. eqb (fam i) (fam j) && active B (z_of B j) w)) (length B) ≡ false → active B (z_of B l) w ≡ false
      inactive l k a = false_of (active B (z_of B l) w) (λ e.
          let b = least_bound (length B) (λ j. eqb (fam i) (fam j) && active B (z_of B j) w) in
          let both : (eqb (fam i) (fam l) && active B (z_of B l) w) ≡ true = simp and-eq-true_iff (eq-eqb (fam i) (fam l) k.same, e) in
          by_cases (dec_lt (least (length B) (λ j. eqb (fam i) (fam j) && active B (z_of B j) w)) (length B))
          (λ x. true≢false (sym (lt-ltb _ _ x) ∙ a))
          (λ x. true≢false (sym both ∙ (least_first (length B) (λ j. eqb (fam i) (fam j) && active B (z_of B j) w)).none l (let y = k.there in omega arith))))

  module _ (i : ℕ) (u p : Word) (h : Clean B u 0 i) (m : Marking B p) where
    abbrev s : Word
    s = drop (xylen B i) u

    u_is : u ≡ xy_of B i ++ s
    u_is = cut_xy B i u (test_of_head h.at)

    clean_s : Clean B (xy_of B i ++ s) 0 i
    clean_s = subst (λ (w : Word). Clean B w 0 i) u_is h

    -- a member that is chosen
    module _ (j : ℕ) (k : Kin B fam i j) (x : is_prefix p (x_of B j) ≡ true) (reach : (i ≡ j) ⊎ PossiblePrefix B fam (z_of B i) s)
        (best : (l : ℕ) → Kin B fam i l → is_prefix p (x_of B l) ≡ true → (i ≡ l) ⊎ PossiblePrefix B fam (z_of B i) s → AtMost rank (xy_of B j) (xy_of B l)) where
      -- Z follows XY
      module _ (w : Word) (q : s ≡ z_of B i ++ w) where
        whole_says : Says B fam rank p u (whole_part B fam i j p w)
        unfolding whole_part
        whole_says = by_choose (Says B fam rank p u) (active B (z_of B j) w) _ _
            (λ a.
            let f = active_found R (z_of B j) w a in
            subst (λ (y : Word). Says B fam rank p y (part (drop (length p) (xy_of B j)) [] (z_of B j ++ w))) (sym u_is)
            (says_part R clean_s k m x reach best (subst (λ (y : Word). Continues B fam i y j [] [] (z_of B j ++ w)) (sym q) (continues_active R w k (hangs_of_prefix R (inner_z R j k.there) f.3 f.2)))
            (xy_of B j) (append-nil (xy_of B j)) (marking_nothing R)))
            (λ a.
            let c = carries i w k.here in
            subst (λ (y : Word). Says B fam rank p y (part (drop (length p) (word B j)) (z_of B (carrier B fam i w)) (z_of B (carrier B fam i w) ++ w))) (sym u_is)
            (says_part R clean_s k m x reach best
            (subst (λ (y : Word). Continues B fam i y j (z_of B j) (z_of B (carrier B fam i w)) (z_of B (carrier B fam i w) ++ w)) (sym q) (continues_inactive R w k c.0 (active_none R (z_of B j) w a) c.1))
            (word B j) (take-append-drop (xylen B j) (word B j)) (marking_z R (carrier B fam i w) c.0.there)))

      -- Z does not follow XY, and j is another member
      module _ (unlike : Unlike (z_of B i) s) (differ : i ≡ j → ⊥) (possible_z : PossiblePrefix B fam (z_of B i) s) where
        abbrev e : Word
        e = take (length (z_of B i) - common_suffix (z_of B i) (z_of B j)) (z_of B i)

        other_says : Says B fam rank p u (other_part B i j p s)
        unfolding other_part
        other_says = by_choose (Says B fam rank p u) (is_prefix e s && not (clean_before B s (length e))) _ _
            (λ a.
            let r = simp and-eq-true_iff at a in
            let q : s ≡ e ++ drop (length e) s = sym (prefix_split e s r.0) in
            let clear = clean_before_none R s (length e) (not-true (clean_before B s (length e)) r.1) in
            let within = suffix_within (z_of B i) (z_of B j) in
            let long = length_z B j in
            subst (λ (y : Word). Says B fam rank p y (part (drop (length p) (take (len B j - common_suffix (z_of B i) (z_of B j)) (word B j))) [] (drop (length e) s))) (sym u_is)
            (says_part R clean_s k m x reach best
            (continues_unparted R s clean_s k differ unlike (longest_suffix (z_of B i) (z_of B j)) (drop (length e) s) q
            (λ d l b c. clear d l b (subst (λ (y : Word). Clean B y d l) (sym q) c)) possible_z)
            (take (len B j - common_suffix (z_of B i) (z_of B j)) (word B j)) (xy_rest R j (common_suffix (z_of B i) (z_of B j)) (omega (arith, within.1, long))) (marking_nothing R)))
            (λ a.
            subst (λ (y : Word). Says B fam rank p y (part (drop (length p) (word B j)) (z_of B i) s)) (sym u_is)
            (says_part R clean_s k m x reach best
            (continues_parted R s clean_s k differ unlike (longest_suffix (z_of B i) (z_of B j)) (λ rest q clear.
            let f : is_prefix e s ≡ true = subst (λ (y : Word). is_prefix e y ≡ true) (sym q) (prefix_append e rest) in
            let n : clean_before B s (length e) ≡ false = false_of (clean_before B s (length e)) (λ b. let c = clean_before_found R s (length e) b in clear c.0 c.1 c.2 c.3) in
            let both : (is_prefix e s && not (clean_before B s (length e))) ≡ true = simp and-eq-true_iff (f, ap not n) in
            true≢false (sym both ∙ a)))
            (word B j) (take-append-drop (xylen B j) (word B j)) (marking_z R i k.here)))

    -- no word behind p where nobody is chosen
    missing_of_nobody : ((l : ℕ) → Kin B fam i l → is_prefix p (x_of B l) ≡ true → (i ≡ l) ⊎ PossiblePrefix B fam (z_of B i) s → ⊥) → Missing B fam p u
    missing_of_nobody out w c =
        let x = x_of_marking R m clean_s (record { rest = w; chain = chain_to c u_is }) in
        out x.0 x.1 x.2 x.3

    -- a clean relation prefix
    member_says : {j : ℕ} → Chosen B fam rank i p s j → Says B fam rank p u (member_part B fam i j p u)
    unfolding member_part
    member_says {j} (nobody a n) = by_choose (Says B fam rank p u) (leb (length B) j) _ _
        (λ b. missing_of_nobody n)
        (λ b. absurd (let c = leb-false (length B) j b in omega arith))
    member_says {j} (member k x reach best) = by_choose (Says B fam rank p u) (leb (length B) j) _ _
        (λ b. absurd (let c = leb-true (length B) j b in let d = k.there in omega arith))
        (λ b. by_choose (Says B fam rank p u) (is_prefix (z_of B i) s) _ _
        (λ c. whole_says j k x reach best (drop (len B i) u) (whole c))
        (λ c.
        let unlike = unlike_of_test (z_of B i) s c in
        by_choose (Says B fam rank p u) (eqb j i) _ _
        (λ d. own unlike (eqb-true j i d))
        (λ d. let differ : i ≡ j → ⊥ = λ o. eqb-false j i d (sym o) in
        other_says j k x reach best unlike differ (⊎_elim (λ o. absurd (differ o)) (λ o. o) reach))))
      where
        whole : is_prefix (z_of B i) s ≡ true → s ≡ z_of B i ++ drop (len B i) u
        whole c =
            let z = length_z B i in
            let b = z_bound B i in
            sym (prefix_split (z_of B i) s c) ∙ ap (z_of B i ++◌) (drop-drop (length (z_of B i)) (xylen B i) u ∙ ap (λ n. drop n u) {x = xylen B i + length (z_of B i)} {y = len B i} (omega arith))

        own : Unlike (z_of B i) s → j ≡ i → Says B fam rank p u (part (drop (length p) (xy_of B i)) [] s)
        own unlike o =
            subst (λ (y : Word). Says B fam rank p y (part (drop (length p) (xy_of B i)) [] s)) (sym u_is)
            (says_part R clean_s (kin_refl h.at.there) m (subst (λ (y : ℕ). is_prefix p (x_of B y) ≡ true) o x) (inl refl)
            (λ l q e how. subst (λ (y : ℕ). AtMost rank (xy_of B y) (xy_of B l)) o (best l q e how))
            (continues_own R s clean_s unlike) (xy_of B i) (append-nil (xy_of B i)) (marking_nothing R))

  -- the first letter stays where no XY in front is clean
  letter_says : (p u : Word) → Marking B p → 0 < length u → ((i : ℕ) → Clean B u 0 i → ⊥) → Says B fam rank p u (letter_part p u)
  unfolding letter_part
  letter_says p [] m a clear = absurd (omega arith)
  letter_says [] (x ∷ u) m a clear = (
    (λ w l.
        record {
          joined = chain_behind (x ∷ []) l.joined;
          first = λ v d.
              let r = first_stays R clear (chain_sym d) in
              subst (AtMost rank (x ∷ w)) (sym r.1) (at_most_behind (x ∷ []) (l.first r.0 (chain_sym r.2)));
        }),
    (λ missing w d. missing u stop),
    marking_nothing R,
  )
  letter_says (y ∷ p) (x ∷ u) m a clear = by_choose (Says B fam rank (y ∷ p) (x ∷ u)) (eqb y x) _ _
      (λ e.
      let o = eqb-true y x e in
      let to : (v : Word) → Chain B fam ((y ∷ p) ++ v) (x ∷ u) → Chain B fam (p ++ v) u = λ v d. chain_sym ((chain_of_rests R clear y (p ++ v)).0 (chain_sym d)).1 in (
        (λ w l.
            record {
              joined = chain_sym ((chain_of_rests R clear y (p ++ w)).1 (sym o, chain_sym l.joined));
              first = λ v d. l.first v (to v d);
            }),
        (λ missing w d. missing w (to w d)),
        marking_drop 1 m,
      ))
      (λ e w d. eqb-false y x e (sym ((chain_of_rests R clear y (p ++ w)).0 (chain_sym d)).0))

  -- the end: the empty word is congruent to itself alone
  end_says : (p : Word) → Says B fam rank p [] (choose (is_empty p) (λ _. end) (λ _. none))
  end_says [] = record { joined = stop; first = λ v d. inl (sym (empty_stays R (chain_sym d))) }
  end_says (x ∷ p) = λ w d. cons≢nil (empty_stays R (chain_sym d))

  -- every round
  pub round_says : Injective rank → (p u : Word) → Marking B p → Says B fam rank p u (write_part B fam rank p u)
  unfolding write_part
  round_says injective p [] m = end_says p
  round_says injective p (x ∷ u) m = by_choose (Says B fam rank p (x ∷ u)) (leb (length B) (clean_relation_prefix B (x ∷ u))) _ _
      (λ a. letter_says p (x ∷ u) m (omega arith) (clean_relation_prefix_none R (x ∷ u) (λ b. let c = leb-true (length B) (clean_relation_prefix B (x ∷ u)) a in omega arith)))
      (λ a.
      let l = leb-false (length B) (clean_relation_prefix B (x ∷ u)) a in
      member_says (clean_relation_prefix B (x ∷ u)) (x ∷ u) p (clean_relation_prefix_clean R (x ∷ u) l) m
      (chosen injective (clean_relation_prefix B (x ∷ u)) l p (drop (xylen B (clean_relation_prefix B (x ∷ u))) (x ∷ u))))
