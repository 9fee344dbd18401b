-- The members of a family: which of them has the mark in its X and comes first, which one is chosen, and which one carries the next word.
use Prim.Native.Nat.{ℕ, ◌≤◌, ◌<◌}
use mathlib.Core.Bool.{Bool, true, false, ◌&&◌, ◌||◌, not, and-eq-true_iff, true≢false}
use mathlib.Core.Logic.{by_cases, ⊎_elim}
use mathlib.Core.List.{List, [], append-nil}
use mathlib.Core.Path.{◌≡◌, refl, sym, ap, ◌∙◌, subst}
use native.Mathlib.Omega.{arith}
use native.Mathlib.Decide.{ℕ_discrete, dec_lt}
use borrow.Author.Tests.{eq-eqb, ne_eqb, lt-ltb, le-ltb}
use lib.Dec.{eqb}
use lib.ListN.{length}
use Rattle.words.specs.Search.{least}
use Rattle.words.specs.Words.{Word, is_prefix}
use Rattle.words.proofs.Tests.{false_of, true_or_false}
use Rattle.words.proofs.Picks.{and_left, and_right}
use Rattle.words.proofs.Prefixes.{prefix_append}
use Rattle.words.proofs.Searching.{least_is, least_none, least_passes, least_first}
use Rattle.overlap.specs.Cuts.{x_of, xy_of, z_of}
use Rattle.congruence.specs.Rows.{active, choose, marked}
use Rattle.congruence.proofs.Heads.{Facts}
use Rattle.congruence.proofs.RowTests.{one_prefix}
use Rattle.least.specs.Order.{before, house_rank}
use Rattle.least.specs.Possible.{possible}
use Rattle.least.specs.Writing.{first_member, chosen_member, carrier}
use Rattle.least.proofs.Order.{at_most_unique, at_most_of_not_before, house_injective}
use Rattle.least.proofs.Choice.{first_is_first, none_is_marked}
use Rattle.members.specs.Members.{active_apart, other_carrier}

module _ (B : List Word) (fam : ℕ → ℕ) (i : ℕ) (p : Word) where
  -- the first member has the mark in its X
  pub first_fits : first_member B fam house_rank i p < length B → is_prefix p (x_of B (first_member B fam house_rank i p)) ≡ true
  unfolding marked
  first_fits l = (simp and-eq-true_iff at (first_is_first house_injective B fam i p l).0).1

  -- a member with the mark in its X before which no other such comes is the first: XY of different words differ
  pub member_first : Facts B → (j : ℕ) → j < length B → marked B fam i p j ≡ true
      → ((l : ℕ) → l < length B → marked B fam i p l ≡ true → before house_rank (xy_of B l) (xy_of B j) ≡ false) → first_member B fam house_rank i p ≡ j
  member_first R j h m n = by_cases (dec_lt (first_member B fam house_rank i p) (length B))
      (λ l.
      let f = first_is_first house_injective B fam i p l in
      let e = at_most_unique (f.1 j h m) (at_most_of_not_before house_injective (xy_of B (first_member B fam house_rank i p)) (xy_of B j) (n (first_member B fam house_rank i p) l f.0)) in
      let q : is_prefix (xy_of B j) (xy_of B j) ≡ true = subst (λ (w : Word). is_prefix (xy_of B j) w ≡ true) (append-nil (xy_of B j)) (prefix_append (xy_of B j) []) in
      one_prefix R (xy_of B j) (first_member B fam house_rank i p) j l h (subst (λ (w : Word). is_prefix w (xy_of B j) ≡ true) (sym e) q) q)
      (λ l. absurd (none_is_marked house_injective B fam i p (omega (arith, l)) j h m))

  pub member_none : ((l : ℕ) → l < length B → marked B fam i p l ≡ false) → first_member B fam house_rank i p ≡ length B
  unfolding first_member
  member_none n = least_none (length B) _ (record { none = λ k l. and_left _ _ (n k l) })

-- the member that is chosen
module _ (B : List Word) (fam : ℕ → ℕ) (i : ℕ) (p s : Word) where
  pub chosen_own : first_member B fam house_rank i p ≡ i → chosen_member B fam house_rank i p s ≡ i
  unfolding chosen_member
  chosen_own e = rw (e, eq-eqb i i refl)

  pub chosen_first : possible B fam (z_of B i) s ≡ true → chosen_member B fam house_rank i p s ≡ first_member B fam house_rank i p
  unfolding chosen_member
  chosen_first e = rw (e) (go (eqb (first_member B fam house_rank i p) i))
    where
      go : (b : Bool) → choose (b || true) (λ _. first_member B fam house_rank i p) (λ _. choose (is_prefix p (x_of B i)) (λ _. i) (λ _. length B)) ≡ first_member B fam house_rank i p
      go true = refl
      go false = refl

  module _ (d : first_member B fam house_rank i p ≡ i → ⊥) (e : possible B fam (z_of B i) s ≡ false) where
    pub chosen_back : is_prefix p (x_of B i) ≡ true → chosen_member B fam house_rank i p s ≡ i
    unfolding chosen_member
    chosen_back f = rw (ne_eqb (first_member B fam house_rank i p) i d, e, f)

    pub chosen_none : is_prefix p (x_of B i) ≡ false → chosen_member B fam house_rank i p s ≡ length B
    unfolding chosen_member
    chosen_none f = rw (ne_eqb (first_member B fam house_rank i p) i d, e, f)

  -- it has the mark in its X, and is another than i only where Z of i is possible
  pub record ChosenFits (j : ℕ) : Type 0 where
    pub in_x : is_prefix p (x_of B j) ≡ true
    pub reached : (j ≡ i → ⊥) → possible B fam (z_of B i) s ≡ true

  pub chosen_fits : (j : ℕ) → j ≡ chosen_member B fam house_rank i p s → j < length B → ChosenFits j
  chosen_fits j q l = by_cases (ℕ_discrete (first_member B fam house_rank i p) i)
      (λ e. let c = sym (q ∙ chosen_own e) in
      subst ChosenFits c (record { in_x = subst (λ (k : ℕ). is_prefix p (x_of B k) ≡ true) e (first_fits B fam i p (omega (arith, e, c, l))); reached = λ n. absurd (n refl) }))
      (λ e. ⊎_elim
      (λ y. let c = sym (q ∙ chosen_first y) in subst ChosenFits c (record { in_x = first_fits B fam i p (omega (arith, c, l)); reached = λ n. y }))
      (λ y. ⊎_elim
      (λ x. let c = sym (q ∙ chosen_back e y x) in subst ChosenFits c (record { in_x = x; reached = λ n. absurd (n refl) }))
      (λ x. let c = q ∙ chosen_none e y x in absurd (omega (arith, c, l)))
      (true_or_false (is_prefix p (x_of B i))))
      (true_or_false (possible B fam (z_of B i) s)))

-- the member that carries the next word; w is not active for Z of j
module _ (B : List Word) (fam : ℕ → ℕ) (i j : ℕ) (w : Word) (h : i < length B) (idle : active B (z_of B j) w ≡ false) where
  carries : ℕ → Bool
  carries c = eqb (fam i) (fam c) && active B (z_of B c) w

  others : ℕ → Bool
  others c = eqb (fam i) (fam c) && active_apart B i j w c

  -- a member that is neither i nor one of the others carries nothing
  carries_not : (c : ℕ) → (c ≡ i → ⊥) → others c ≡ false → carries c ≡ false
  unfolding carries others active_apart
  carries_not c d n = false_of (carries c) (λ t.
      let r = simp and-eq-true_iff at t in
      let a : (c ≡ j → ⊥) = λ e. true≢false (sym r.1 ∙ subst (λ (m : ℕ). active B (z_of B m) w ≡ false) (sym e) idle) in
      let o : others c ≡ true = simp and-eq-true_iff (r.0, (ap not (ne_eqb c i d), (ap not (ne_eqb c j a), r.1))) in
      true≢false (sym o ∙ n))

  -- the first that carries
  carrier_is : (c : ℕ) → c < length B → carries c ≡ true → ((k : ℕ) → k < c → carries k ≡ false) → carrier B fam i w ≡ c
  unfolding carrier carries
  carrier_is c l t n =
      let e : least (length B) carries ≡ c = least_is (length B) carries c l (record { none = n }) t in
      rw (e, lt-ltb c (length B) l)

  -- i, where it is active and none of the others before it is
  pub carrier_own : active B (z_of B i) w ≡ true → i ≤ other_carrier B fam i j w → carrier B fam i w ≡ i
  unfolding other_carrier carries others
  carrier_own a l = carrier_is i h (simp and-eq-true_iff (eq-eqb (fam i) (fam i) refl, a)) (λ k b.
      carries_not k (λ e. omega (arith, e, b)) ((least_first (length B) others).none k (omega (arith, b, l))))

  -- i, where none of the others is active
  pub carrier_alone : length B ≤ other_carrier B fam i j w → carrier B fam i w ≡ i
  unfolding other_carrier carrier carries others
  carrier_alone l = ⊎_elim
      (λ a. carrier_own a (omega (arith, h, l)))
      (λ a.
      let none : (k : ℕ) → k < length B → carries k ≡ false = λ k b. by_cases (ℕ_discrete k i)
      (λ e. and_right (eqb (fam i) (fam k)) _ (subst (λ (m : ℕ). active B (z_of B m) w ≡ false) (sym e) a))
      (λ e. carries_not k e ((least_first (length B) others).none k (omega (arith, b, l)))) in
      let c : least (length B) carries ≡ length B = least_none (length B) carries (record { none = none }) in
      rw (c, le-ltb (length B) (length B) (omega arith)))
      (true_or_false (active B (z_of B i) w))

  -- the first of the others, where i is behind it or not active
  pub carrier_other : other_carrier B fam i j w < length B → (i < other_carrier B fam i j w → active B (z_of B i) w ≡ false) → carrier B fam i w ≡ other_carrier B fam i j w
  unfolding other_carrier carries others active_apart
  carrier_other l q =
      let r = simp and-eq-true_iff at (least_passes (length B) others l) in
      carrier_is (least (length B) others) l (simp and-eq-true_iff (r.0, r.1.1.1)) (λ k b. by_cases (ℕ_discrete k i)
      (λ e. and_right (eqb (fam i) (fam k)) _ (subst (λ (m : ℕ). active B (z_of B m) w ≡ false) (sym e) (q (omega (arith, e, b)))))
      (λ e. carries_not k e ((least_first (length B) others).none k b)))
