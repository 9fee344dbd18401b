-- The walk of specs/Possible.antt: its steps as equations; steps beyond the letters change nothing; and of every word that may be a front mark it tells whether that
-- is a possible prefix.
use Prim.Native.Nat.{ℕ, zero, suc, ◌≤◌, ◌<◌}
use mathlib.Core.Bool.{Bool, true, false, true≢false, and-eq-true_iff}
use mathlib.Core.List.{List, [], ◌∷◌, ◌++◌, cons≢nil}
use mathlib.Core.Path.{◌≡◌, refl, sym, ap, ◌∙◌, subst}
use mathlib.Core.Logic.{by_cases, ⊎_elim, ◌⊎◌, ◌↔◌}
use native.Mathlib.Omega.{arith}
use native.Mathlib.Decide.{dec_le}
use borrow.Author.Tests.{eqb-true, eqb-false, eq-eqb, le-leb, lt-leb}
use lib.ListN.{length, take, drop, length-drop, take-append-drop}
use lib.Seq.{take-take}
use Rattle.words.specs.Words.{Word, is_prefix}
use Rattle.words.proofs.Tests.{true_or_false}
use Rattle.words.proofs.Lists.{no_letters}
use Rattle.words.proofs.Prefixes.{prefix_trans, prefix_append, prefix_split}
use Rattle.words.proofs.Searching.{any_of, any_found}
use Rattle.overlap.specs.Pieces.{word}
use Rattle.overlap.specs.Cuts.{xlen, xylen, x_of, xy_of, z_of}
use Rattle.overlap.proofs.Facts.{length_xy}
use Rattle.congruence.specs.Rows.{clean_relation_prefix, alike, marked, marked_by_any}
use Rattle.congruence.proofs.Heads.{Facts, Clean}
use Rattle.congruence.proofs.RowTests.{test_of_head, clean_relation_prefix_clean, clean_relation_prefix_none}
use Rattle.congruence.proofs.Chains.{Kin, chain_sym, chain_of_eq}
use Rattle.congruence.proofs.CleanPrefixes.{PossiblePrefix}
use Rattle.congruence.proofs.PossiblePrefixes.{possible_of_turn, possible_of_rests, empty_stays}
use Rattle.least.specs.Possible.{possible_within, possible}
use Rattle.least.proofs.Marks.{Marking, marking_drop, marking_z, x_of_marking}

-- X is a prefix of XY
pub x_of_xy : (B : List Word) (i : ℕ) → xlen B i ≤ xylen B i → is_prefix (x_of B i) (xy_of B i) ≡ true
x_of_xy B i h =
    subst (λ (w : Word). is_prefix (x_of B i) w ≡ true) (take-append-drop (xlen B i) (xy_of B i))
    (subst (λ (w : Word). is_prefix w (take (xlen B i) (xy_of B i) ++ drop (xlen B i) (xy_of B i)) ≡ true) (take-take (xlen B i) (xylen B i) (word B i) h)
    (prefix_append (take (xlen B i) (xy_of B i)) (drop (xlen B i) (xy_of B i))))

-- The steps of the walk, of whatever number.
module _ (B : List Word) (fam : ℕ → ℕ) where
  -- a prefix is possible
  pub within_front : (n : ℕ) (p u : Word) → is_prefix p u ≡ true → possible_within B fam n p u ≡ true
  unfolding possible_within
  within_front zero p u e = e
  within_front (suc n) p u e = rw e

  -- of the empty word only a prefix is
  pub within_empty : (n : ℕ) (p : Word) → possible_within B fam n p [] ≡ is_prefix p []
  unfolding possible_within
  within_empty zero p = refl
  within_empty (suc n) p = ⊎_elim (λ e. rw e) (λ e. rw e) (true_or_false (is_prefix p []))

  -- the first letter stays
  pub within_letter : (n : ℕ) (p : Word) (x : ℕ) (u : Word) → is_prefix p (x ∷ u) ≡ false → length B ≤ clean_relation_prefix B (x ∷ u) → alike p (x ∷ u) ≡ true
      → possible_within B fam (suc n) p (x ∷ u) ≡ possible_within B fam n (drop 1 p) u
  unfolding possible_within
  within_letter n p x u e h a = rw (e, le-leb (length B) (clean_relation_prefix B (x ∷ u)) h, a)

  -- the first letter stays, and p does not begin with it
  pub within_unlike : (n : ℕ) (p u : Word) → is_prefix p u ≡ false → length B ≤ clean_relation_prefix B u → alike p u ≡ false → possible_within B fam n p u ≡ false
  unfolding possible_within
  within_unlike zero p u e h a = e
  within_unlike (suc n) p [] e h a = rw e
  within_unlike (suc n) p (x ∷ u) e h a = rw (e, le-leb (length B) (clean_relation_prefix B (x ∷ u)) h, a)

  -- a clean XY, and p begins X of a member
  pub within_turn : (n : ℕ) (p : Word) (x : ℕ) (u : Word) (i : ℕ) → is_prefix p (x ∷ u) ≡ false → i ≡ clean_relation_prefix B (x ∷ u) → i < length B → marked_by_any B fam i p ≡ true
      → possible_within B fam (suc n) p (x ∷ u) ≡ possible_within B fam n (z_of B i) (drop (xylen B i) (x ∷ u))
  unfolding possible_within
  within_turn n p x u i e q h m = rw (e, sym q, lt-leb (length B) i h, m)

  -- a clean XY, and p begins X of no member
  pub within_unmarked : (n : ℕ) (p u : Word) (i : ℕ) → is_prefix p u ≡ false → i ≡ clean_relation_prefix B u → i < length B → marked_by_any B fam i p ≡ false
      → possible_within B fam n p u ≡ false
  unfolding possible_within
  within_unmarked zero p u i e q h m = e
  within_unmarked (suc n) p [] i e q h m = rw e
  within_unmarked (suc n) p (x ∷ u) i e q h m = rw (e, sym q, lt-leb (length B) i h, m)

-- The same of the walk that has as many steps as the word has letters.
module _ (B : List Word) (fam : ℕ → ℕ) where
  -- a prefix is possible
  pub possible_front : (p u : Word) → is_prefix p u ≡ true → possible B fam p u ≡ true
  unfolding possible
  possible_front p u e = within_front B fam (length u) p u e

  -- of the empty word nothing else is
  pub possible_empty : (p : Word) → is_prefix p [] ≡ false → possible B fam p [] ≡ false
  unfolding possible
  possible_empty p e = within_empty B fam 0 p ∙ e

  -- the first letter stays: without it on both sides
  pub possible_letter : (p u : Word) → is_prefix p u ≡ false → 0 < length u → length B ≤ clean_relation_prefix B u → alike p u ≡ true
      → possible B fam p u ≡ possible B fam (drop 1 p) (drop 1 u)
  unfolding possible
  possible_letter p [] e l h a = absurd (omega arith)
  possible_letter p (x ∷ u) e l h a = within_letter B fam (length u) p x u e h a

  -- the first letter stays, and p does not begin with it
  pub possible_unlike : (p u : Word) → is_prefix p u ≡ false → length B ≤ clean_relation_prefix B u → alike p u ≡ false → possible B fam p u ≡ false
  unfolding possible
  possible_unlike p u e h a = within_unlike B fam (length u) p u e h a

  -- a clean XY, and p begins X of no member
  pub possible_unmarked : (p u : Word) (i : ℕ) → is_prefix p u ≡ false → i ≡ clean_relation_prefix B u → i < length B → marked_by_any B fam i p ≡ false
      → possible B fam p u ≡ false
  unfolding possible
  possible_unmarked p u i e q h m = within_unmarked B fam (length u) p u i e q h m

module _ {B : List Word} (R : Facts B) where
  -- behind XY fewer letters are left
  rest_shorter : (x : ℕ) (u : Word) (i : ℕ) → i < length B → length (drop (xylen B i) (x ∷ u)) ≤ length u
  rest_shorter x u i h = let s = R.some i h in let d = length-drop (xylen B i) (x ∷ u) in omega arith

  -- the clean relation prefix is clean
  pub clean_there : (u : Word) (i : ℕ) → i ≡ clean_relation_prefix B u → i < length B → Clean B u 0 i
  clean_there u i q h = subst (Clean B u 0) (sym q) (clean_relation_prefix_clean R u (subst (λ (n : ℕ). n < length B) q h))

  -- XY is in front of what is left behind it
  pub front_of_clean : (u : Word) (i : ℕ) → i ≡ clean_relation_prefix B u → i < length B → xy_of B i ++ drop (xylen B i) u ≡ u
  front_of_clean u i q h = ap (λ (n : ℕ). xy_of B i ++ drop n u) (sym (length_xy B i)) ∙ prefix_split (xy_of B i) u (test_of_head (clean_there u i q h).at)

module _ {B : List Word} (R : Facts B) (fam : ℕ → ℕ) where
  -- with a steps, a word of at most a letters has what it has with any number of steps that is not below its letters
  Enough : ℕ → Type 0
  Enough a = (b : ℕ) (p u : Word) → length u ≤ a → length u ≤ b → possible_within B fam a p u ≡ possible_within B fam b p u

  -- the same with one step more
  enough_more : (a : ℕ) → Enough a → Enough (suc a)
  unfolding Enough
  enough_more a r b p [] h k = within_empty B fam (suc a) p ∙ sym (within_empty B fam b p)
  enough_more a r zero p (x ∷ u) h k = absurd (omega arith)
  enough_more a r (suc b) p (x ∷ u) h k = ⊎_elim
      (λ e. within_front B fam (suc a) p (x ∷ u) e ∙ sym (within_front B fam (suc b) p (x ∷ u) e))
      (λ e. by_cases (dec_le (length B) (clean_relation_prefix B (x ∷ u)))
      (λ l. ⊎_elim
      (λ f. within_letter B fam a p x u e l f ∙ r b (drop 1 p) u (omega arith) (omega arith) ∙ sym (within_letter B fam b p x u e l f))
      (λ f. within_unlike B fam (suc a) p (x ∷ u) e l f ∙ sym (within_unlike B fam (suc b) p (x ∷ u) e l f))
      (true_or_false (alike p (x ∷ u))))
      (λ l. turn e (clean_relation_prefix B (x ∷ u)) refl (omega (arith, l))))
      (true_or_false (is_prefix p (x ∷ u)))
    where
      turn : is_prefix p (x ∷ u) ≡ false → (i : ℕ) → i ≡ clean_relation_prefix B (x ∷ u) → i < length B → possible_within B fam (suc a) p (x ∷ u) ≡ possible_within B fam (suc b) p (x ∷ u)
      turn e i q t =
          let s = rest_shorter R x u i t in
          ⊎_elim
          (λ f. within_turn B fam a p x u i e q t f ∙ r b (z_of B i) (drop (xylen B i) (x ∷ u)) (omega arith) (omega arith) ∙ sym (within_turn B fam b p x u i e q t f))
          (λ f. within_unmarked B fam (suc a) p (x ∷ u) i e q t f ∙ sym (within_unmarked B fam (suc b) p (x ∷ u) i e q t f))
          (true_or_false (marked_by_any B fam i p))

  -- steps beyond the letters change nothing
  pub within_enough : (a b : ℕ) (p u : Word) → length u ≤ a → length u ≤ b → possible_within B fam a p u ≡ possible_within B fam b p u
  unfolding Enough
  within_enough zero b p u h k =
      let e = no_letters u (omega arith) in
      ap (possible_within B fam 0 p) e ∙ within_empty B fam 0 p ∙ sym (ap (possible_within B fam b p) e ∙ within_empty B fam b p)
  within_enough (suc a) b p u h k = enough_more a (λ b p u h k. within_enough a b p u h k) b p u h k

  -- a clean XY, and p begins X of a member: then Z behind XY
  pub possible_turn : (p u : Word) (i : ℕ) → is_prefix p u ≡ false → i ≡ clean_relation_prefix B u → i < length B → marked_by_any B fam i p ≡ true
      → possible B fam p u ≡ possible B fam (z_of B i) (drop (xylen B i) u)
  unfolding possible
  possible_turn p [] i e q h m =
      let c = (clean_there R [] i q h).at in
      let f = c.fits in
      let l = c.long in
      absurd (omega arith)
  possible_turn p (x ∷ u) i e q h m =
      within_turn B fam (length u) p x u i e q h m
      ∙ within_enough (length u) (length (drop (xylen B i) (x ∷ u))) (z_of B i) (drop (xylen B i) (x ∷ u)) (rest_shorter R x u i h) (omega arith)

-- a test that fails tells what is not
fails : {b : Bool} {P : Type 0} → b ≡ false → (P → ⊥) → (b ≡ true) ↔ P
fails e n = ((λ t. absurd (true≢false (sym t ∙ e))), (λ x. absurd (n x)))

-- a test with the value of another tells what the other does
goes : {b c : Bool} {P Q : Type 0} → b ≡ c → (c ≡ true) ↔ Q → Q ↔ P → (b ≡ true) ↔ P
goes e f g = ((λ t. g.0 (f.0 (sym e ∙ t))), (λ x. e ∙ f.1 (g.1 x)))

module _ {B : List Word} {fam : ℕ → ℕ} where
  -- a prefix is a possible prefix
  pub possible_of_prefix : (p u : Word) → is_prefix p u ≡ true → PossiblePrefix B fam p u
  possible_of_prefix p u e = record { rest = drop (length p) u; chain = chain_of_eq (prefix_split p u e) }

  -- where the test holds, p begins X of a member
  pub member_of_test : (p : Word) (i : ℕ) → i < length B → marked_by_any B fam i p ≡ true → (j : ℕ) × Kin B fam i j × (is_prefix p (x_of B j) ≡ true)
  unfolding marked_by_any marked
  member_of_test p i h e =
      let f = any_found (length B) (marked B fam i p) e in
      let r = simp and-eq-true_iff at f.2 in
      (f.0, record { here = h; there = f.1; same = eqb-true (fam i) (fam f.0) r.0 }, r.1)

  -- where p begins X of a member, the test holds
  pub test_of_member : (p : Word) (i j : ℕ) → Kin B fam i j → is_prefix p (x_of B j) ≡ true → marked_by_any B fam i p ≡ true
  unfolding marked_by_any marked
  test_of_member p i j k e = any_of (length B) (marked B fam i p) j k.there (simp and-eq-true_iff (eq-eqb (fam i) (fam j) k.same, e))

-- What the steps say of possible prefixes.
module _ {B : List Word} (R : Facts B) (fam : ℕ → ℕ) where
  -- of the empty word nothing but a prefix is a possible prefix
  empty_none : (p : Word) → is_prefix p [] ≡ false → PossiblePrefix B fam p [] → ⊥
  unfolding is_prefix
  empty_none [] e x = true≢false e
  empty_none (y ∷ p) e x = cons≢nil (empty_stays R (chain_sym x.chain))

  -- where no XY in front is clean, the first letter stays
  letter_tells : (p : Word) (x : ℕ) (u : Word) → ((i : ℕ) → Clean B (x ∷ u) 0 i → ⊥) → is_prefix p (x ∷ u) ≡ false → alike p (x ∷ u) ≡ true
      → PossiblePrefix B fam (drop 1 p) u ↔ PossiblePrefix B fam p (x ∷ u)
  unfolding is_prefix
  letter_tells [] x u none e a = absurd (true≢false e)
  letter_tells (y ∷ p) x u none e a = let r = possible_of_rests R none y p in ((λ z. r.1 (eqb-true y x a, z)), (λ z. (r.0 z).1))

  -- and a possible prefix that is not empty begins with it
  letter_none : (p : Word) (x : ℕ) (u : Word) → ((i : ℕ) → Clean B (x ∷ u) 0 i → ⊥) → is_prefix p (x ∷ u) ≡ false → alike p (x ∷ u) ≡ false → PossiblePrefix B fam p (x ∷ u) → ⊥
  unfolding is_prefix
  letter_none [] x u none e a z = true≢false e
  letter_none (y ∷ p) x u none e a z = eqb-false y x a ((possible_of_rests R none y p).0 z).0

  -- what `x_of_marking` says, for the clean relation prefix of u
  member_of_possible : (p u : Word) (i : ℕ) → Marking B p → i ≡ clean_relation_prefix B u → i < length B → PossiblePrefix B fam p u
      → (j : ℕ) × Kin B fam i j × (is_prefix p (x_of B j) ≡ true) × ((i ≡ j) ⊎ PossiblePrefix B fam (z_of B i) (drop (xylen B i) u))
  member_of_possible p u i m q h x =
      let e = front_of_clean R u i q h in
      x_of_marking R m (subst (λ (w : Word). Clean B w 0 i) (sym e) (clean_there R u i q h)) (subst (PossiblePrefix B fam p) (sym e) x)

  -- where p begins X of a member of the clean XY's family, Z must be possible behind XY
  turn_tells : (p u : Word) (i : ℕ) → Marking B p → is_prefix p u ≡ false → i ≡ clean_relation_prefix B u → i < length B → marked_by_any B fam i p ≡ true
      → PossiblePrefix B fam (z_of B i) (drop (xylen B i) u) ↔ PossiblePrefix B fam p u
  turn_tells p u i m n q h e = (
    (λ z. let f = member_of_test p i h e in subst (PossiblePrefix B fam p) (front_of_clean R u i q h) (possible_of_turn R p f.1 f.2 z)),
    (λ z. let f = member_of_possible p u i m q h z in ⊎_elim (λ a. absurd (true≢false (sym (front a f.2) ∙ n))) (λ a. a) f.3),
  )
    where
      front : {j : ℕ} → i ≡ j → is_prefix p (x_of B j) ≡ true → is_prefix p u ≡ true
      front {j} a x =
          let s = R.some i h in
          prefix_trans p (x_of B i) u (subst (λ (k : ℕ). is_prefix p (x_of B k) ≡ true) (sym a) x)
          (prefix_trans (x_of B i) (xy_of B i) u (x_of_xy B i (omega arith)) (test_of_head (clean_there R u i q h).at))

  -- where p begins X of no member, it is no possible prefix
  unmarked_none : (p u : Word) (i : ℕ) → Marking B p → i ≡ clean_relation_prefix B u → i < length B → marked_by_any B fam i p ≡ false → PossiblePrefix B fam p u → ⊥
  unmarked_none p u i m q h e z = let f = member_of_possible p u i m q h z in true≢false (sym (test_of_member p i f.0 f.1 f.2) ∙ e)

  -- the walk of n steps tells possible prefixes of words of at most n letters
  Tells : ℕ → Type 0
  Tells n = (p u : Word) → Marking B p → length u ≤ n → (possible_within B fam n p u ≡ true) ↔ PossiblePrefix B fam p u

  -- so it does of a prefix
  tells_front : (n : ℕ) (p u : Word) → is_prefix p u ≡ true → (possible_within B fam n p u ≡ true) ↔ PossiblePrefix B fam p u
  tells_front n p u e = ((λ t. possible_of_prefix p u e), (λ x. within_front B fam n p u e))

  -- and of the empty word
  tells_empty : (n : ℕ) (p : Word) → (possible_within B fam n p [] ≡ true) ↔ PossiblePrefix B fam p []
  tells_empty n p = ⊎_elim
      (λ e. tells_front n p [] e)
      (λ e. fails (within_empty B fam n p ∙ e) (empty_none p e))
      (true_or_false (is_prefix p []))

  -- and with one step more of words of one letter more
  tells_more : (n : ℕ) → Tells n → Tells (suc n)
  unfolding Tells
  tells_more n r p [] m h = tells_empty (suc n) p
  tells_more n r p (x ∷ u) m h = ⊎_elim
      (λ e. tells_front (suc n) p (x ∷ u) e)
      (λ e. by_cases (dec_le (length B) (clean_relation_prefix B (x ∷ u)))
      (λ l.
      let none : (i : ℕ) → Clean B (x ∷ u) 0 i → ⊥ = clean_relation_prefix_none R (x ∷ u) (λ k. absurd (omega (arith, l, k))) in
      ⊎_elim
      (λ f. goes (within_letter B fam n p x u e l f) (r (drop 1 p) u (marking_drop 1 m) (omega arith)) (letter_tells p x u none e f))
      (λ f. fails (within_unlike B fam (suc n) p (x ∷ u) e l f) (letter_none p x u none e f))
      (true_or_false (alike p (x ∷ u))))
      (λ l. turn e (clean_relation_prefix B (x ∷ u)) refl (omega (arith, l))))
      (true_or_false (is_prefix p (x ∷ u)))
    where
      turn : is_prefix p (x ∷ u) ≡ false → (i : ℕ) → i ≡ clean_relation_prefix B (x ∷ u) → i < length B → (possible_within B fam (suc n) p (x ∷ u) ≡ true) ↔ PossiblePrefix B fam p (x ∷ u)
      turn e i q t =
          let s = rest_shorter R x u i t in
          ⊎_elim
          (λ f. goes (within_turn B fam n p x u i e q t f) (r (z_of B i) (drop (xylen B i) (x ∷ u)) (marking_z R i t) (omega arith)) (turn_tells p (x ∷ u) i m e q t f))
          (λ f. fails (within_unmarked B fam (suc n) p (x ∷ u) i e q t f) (unmarked_none p (x ∷ u) i m q t f))
          (true_or_false (marked_by_any B fam i p))

  -- a walk of as many steps as letters or more tells possible prefixes
  pub within_right : (n : ℕ) (p u : Word) → Marking B p → length u ≤ n → (possible_within B fam n p u ≡ true) ↔ PossiblePrefix B fam p u
  unfolding Tells
  within_right zero p u m h = subst (λ (w : Word). (possible_within B fam 0 p w ≡ true) ↔ PossiblePrefix B fam p w) (sym (no_letters u (omega arith))) (tells_empty 0 p)
  within_right (suc n) p u m h = tells_more n (λ p u m h. within_right n p u m h) p u m h

  -- the walk tells possible prefixes
  pub possible_right : (p u : Word) → Marking B p → (possible B fam p u ≡ true) ↔ PossiblePrefix B fam p u
  unfolding possible
  possible_right p u m = within_right (length u) p u m (omega arith)
