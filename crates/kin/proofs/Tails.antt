-- The member whose tail row 4 goes on with: a law for each way that looking for it can go.
use Prim.Native.Nat.{ℕ, ◌-◌, ◌≤◌, ◌<◌}
use mathlib.Core.Bool.{Bool, true, false, ◌&&◌, not, true≢false, and-eq-true_iff}
use mathlib.Core.List.{List}
use mathlib.Core.Logic.{by_cases}
use mathlib.Core.Path.{◌≡◌, refl, sym, ap, ◌∙◌, subst}
use native.Mathlib.Decide.{dec_lt, dec_le, ℕ_discrete}
use native.Mathlib.Omega.{arith}
use borrow.Author.Rules.{rules}
use borrow.Author.Tests.{eqb-true, eq-eqb, ne_eqb, lt-ltb, le-ltb, lt-leb, le-leb, leb-true, not-true}
use lib.Dec.{eqb, leb, ltb}
use lib.ListN.{length, drop}
use Rattle.words.specs.Search.{least}
use Rattle.words.specs.Words.{Word}
use Rattle.words.proofs.Tests.{false_of}
use Rattle.words.proofs.Searching.{NoneBelow, least_passes, least_first, least_is, least_none, least_same}
use Rattle.overlap.specs.Cuts.{z_of}
use Rattle.congruence.specs.Rows.{active, is_other, first_other, first_active, tail_member}
use Rattle.layout.specs.Places.{family_cell, next_cell}
use Rattle.layout.specs.Layout.{words_in}
use Rattle.layout.specs.Families.{family_at, family_by, next_of}
use Rattle.layout.proofs.Placed.{words_length}
use Rattle.layout.proofs.Cells.{family_at_lem}
use Rattle.layout.proofs.Links.{kin_test, Along, along_start, along_next, along_first, along_no_first}
use Rattle.kin.specs.Asked.{LinkedWord, RestAsked, IdleRest, two_at_most, active_other}
use Rattle.kin.proofs.Laws.{grouped, grouped_linked, rest_word}

-- the other members of a family by their cells
module _ (table : List ℕ) (n i : ℕ) (h : LinkedWord table n i) where
  pub linked_family_room : family_cell i < length table
  linked_family_room = let a = h.few in let b = h.room in let c = h.there in omega arith

  pub linked_next_room : next_cell i < length table
  linked_next_room = let a = h.few in let b = h.room in let c = h.there in omega arith

  pub low_room : (f : ℕ) → f ≡ family_at table i → next_cell f < length table
  low_room f e = let a = h.linked.low i h.there in let b = h.few in let c = h.room in let d = h.there in omega (arith, a, b, c, d, e)

  -- another member is one of the same family that is not i
  other_of : (k : ℕ) → k < n → is_other (family_by table n) i k ≡ true → (family_at table k ≡ family_at table i) × (i ≡ k → ⊥)
  unfolding is_other
  other_of k l t =
      let r = simp and-eq-true_iff at t in (
        sym (family_at_lem table n k l) ∙ sym (eqb-true (family_by table n i) (family_by table n k) r.0) ∙ family_at_lem table n i h.there,
        λ e. true≢false (sym (eq-eqb i k e) ∙ not-true (eqb i k) r.1),
      )

  of_other : (k : ℕ) → k < n → family_at table k ≡ family_at table i → (i ≡ k → ⊥) → is_other (family_by table n) i k ≡ true
  unfolding is_other
  of_other k l e d =
      simp and-eq-true_iff (eq-eqb (family_by table n i) (family_by table n k) (family_at_lem table n i h.there ∙ sym e ∙ sym (family_at_lem table n k l)), ap not (ne_eqb i k d))

  -- no other member stands below the lowest one
  none_below_low : NoneBelow (is_other (family_by table n) i) (family_at table i)
  none_below_low =
      let a = h.linked.low i h.there in
      record {
        none = λ k l. false_of (is_other (family_by table n) i k) (λ t.
            let b : k < n = let c = h.there in omega (arith, a, l, c) in
            let o = other_of k b t in
            let c = h.linked.low k b in
            absurd (omega (arith, c, l, o.0)));
      }

  module _ (f : ℕ) (e : f ≡ family_at table i) where
    -- the lowest member, where it is not i
    pub other_low : (f ≡ i → ⊥) → f ≡ least n (is_other (family_by table n) i)
    other_low d =
        let l = h.linked.low i h.there in
        let t = h.there in
        let b : f < n = omega (arith, l, t, e) in
        sym (least_is n (is_other (family_by table n) i) f b (rw e none_below_low) (of_other f b (ap (family_at table) e ∙ h.linked.lowest i t) (λ z. d (sym z))))

    module _ (w : f ≡ i) (k : ℕ) (g : k ≡ next_of table i) where
      -- where i is the lowest, no other member stands before the next one
      none_below_next : (m : ℕ) → m < n → m < k → is_other (family_by table n) i m ≡ false
      none_below_next m a b = false_of (is_other (family_by table n) i m) (λ t.
          let o = other_of m a t in
          let c = h.linked.low m a in
          let z : i < m = let d = o.1 in by_cases (dec_lt i m) (λ x. x) (λ x. absurd (d (omega (arith, x, c, o.0, w, e)))) in
          h.linked.none i m h.there z (omega (arith, b, g)) a o.0)

      -- the member behind i, where i is the lowest
      pub other_next : k < n → k ≡ least n (is_other (family_by table n) i)
      other_next l =
          let a = h.linked.later i h.there in
          sym (least_is n (is_other (family_by table n) i) k l (record { none = λ m b. none_below_next m (omega (arith, b, l)) b })
          (of_other k l (ap (family_at table) g ∙ h.linked.kin i h.there (omega (arith, l, g))) (λ z. absurd (omega (arith, a, g, z)))))

      -- none, where i is alone
      pub other_none : n ≤ k → n ≡ least n (is_other (family_by table n) i)
      other_none l = sym (least_none n (is_other (family_by table n) i) (record { none = λ m b. none_below_next m b (omega (arith, b, l)) }))

pub ruleset others = (linked_family_room, linked_next_room, other_low, other_next, other_none, rules)

-- two members or one
module _ (table : List ℕ) (n i : ℕ) (h : LinkedWord table n i) where
  module _ (f : ℕ) (e : f ≡ family_at table i) (second : ℕ) (g : second ≡ next_of table f) where
    pub two_alone : n ≤ second → true ≡ two_at_most table n i
    unfolding two_at_most
    two_alone l = let q : leb n (next_of table (family_at table i)) ≡ true = rw (← e, ← g) (le-leb n second l) in rw q

    module _ (l : second < n) where
      pub second_room : next_cell second < length table
      second_room = let a = h.few in let b = h.room in omega (arith, a, b, l)

      pub two_behind : (third : ℕ) → third ≡ next_of table second → leb n third ≡ two_at_most table n i
      unfolding two_at_most
      two_behind third w =
          let q : leb n (next_of table (family_at table i)) ≡ false = rw (← e, ← g) (lt-leb n second l) in
          rw (q, ← e, ← g, ← w)

  -- where there are two at most, a member that is not the lowest is the second
  second_of : two_at_most table n i ≡ true → (k : ℕ) → k < n → family_at table k ≡ family_at table i → (k ≡ family_at table i → ⊥) → k ≡ next_of table (family_at table i)
  unfolding two_at_most
  second_of t k l m d =
      let low = family_at table i in
      let second = next_of table low in
      let a = h.linked.low k l in
      let b : low < n = let x = h.linked.low i h.there in let y = h.there in omega (arith, x, y) in
      let c = h.linked.lowest i h.there in
      let x : low < k = omega (arith, a, m, d) in
      by_cases (dec_lt k second)
      (λ z. absurd (h.linked.none low k b x z l (m ∙ sym c)))
      (λ z. by_cases (ℕ_discrete k second) (λ w. w) (λ w.
      let s : second < n = omega (arith, z, l) in
      let r : leb n (next_of table second) ≡ true = rw (lt-leb n second s) at t in
      absurd (h.linked.none second k s (omega (arith, z, w)) (let y = leb-true n (next_of table second) r in omega (arith, y, l)) l (m ∙ sym (h.linked.kin low b s ∙ c)))))

  -- and there is at most one other member
  pub one_other : two_at_most table n i ≡ true → (a b : ℕ) → a < n → b < n → is_other (family_by table n) i a ≡ true → is_other (family_by table n) i b ≡ true → a ≡ b
  one_other t a b l m x y =
      let p = other_of table n i h a l x in
      let q = other_of table n i h b m y in
      let at = second_of t a l p.0 in
      let bt = second_of t b m q.0 in
      let it = second_of t i h.there refl in
      let low = family_at table i in
      by_cases (ℕ_discrete a low)
      (λ u. by_cases (ℕ_discrete b low) (λ v. omega (arith, u, v)) (λ v. absurd (q.1 (it (λ w. p.1 (omega (arith, u, w))) ∙ sym (bt v)))))
      (λ u. by_cases (ℕ_discrete b low) (λ v. absurd (p.1 (it (λ w. q.1 (omega (arith, v, w))) ∙ sym (at u)))) (λ v. at u ∙ sym (bt v)))

pub ruleset twos = (linked_family_room, low_room, two_alone, second_room, two_behind, rules)

-- another member that is active
module _ (B : List Word) (i : ℕ) (s : Word) (j : ℕ) where
  pub active_own : j ≡ i → false ≡ active_other B i s j
  unfolding active_other
  active_own e = let q : eqb i j ≡ true = eq-eqb i j (sym e) in rw q

  pub active_else : (j ≡ i → ⊥) → (r : Bool) → r ≡ active B (z_of B j) s → r ≡ active_other B i s j
  unfolding active_other
  active_else d r e = let q : eqb i j ≡ false = ne_eqb i j (λ z. d (sym z)) in rw q e

pub ruleset active_others = (active_own, active_else, rules)

-- what the loop knows: for no other member before j is the rest active
abbrev pub Quiet : List ℕ → List ℕ → ℕ → Word → ℕ → ℕ → ℕ → Type 0
Quiet text table n given i k j = Along table n i (active_other (words_in text table n) i (drop k given)) j

and_assoc : (a b c : Bool) → (a && (b && c)) ≡ (a && b && c)
and_assoc true b c = refl
and_assoc false b c = refl

module _ (text table : List ℕ) (n : ℕ) (given : Word) (i k : ℕ) (a : RestAsked text table n given i k) where
  -- the search over members, as it stands in the definition
  active_search : (r : ℕ) → least n (kin_test table n i (active_other (words_in text table n) i (drop k given))) ≡ r
      → r ≡ first_active (words_in text table n) (family_by table n) i (drop k given)
  unfolding first_active is_other active_other
  active_search r e =
      let B = words_in text table n in
      let F = family_by table n in
      let t : ℕ → Bool = λ j. active B (z_of B j) (drop k given) in
      sym e ∙ least_same n (kin_test table n i (active_other B i (drop k given))) (λ j. is_other F i j && t j) (λ j l. and_assoc (eqb (F i) (F j)) (not (eqb i j)) (t j))
      ∙ rw (words_length text table n)

  pub quiet_start : (f : ℕ) → f ≡ family_at table i → Quiet text table n given i k f
  quiet_start f e =
      subst (Quiet text table n given i k) (sym e)
      (along_start table n a.word.grouped.linked i a.word.there (active_other (words_in text table n) i (drop k given)))

  pub rest_of_other : (j : ℕ) → j < n → RestAsked text table n given j k
  rest_of_other j l = record { word = record { grouped = a.word.grouped; there = l }; within = a.within }

  module _ (j : ℕ) (q : Quiet text table n given i k j) where
    module _ (l : j < n) (x : Bool) (e : x ≡ active_other (words_in text table n) i (drop k given) j) where
      pub quiet_stop : x ≡ true → j ≡ first_active (words_in text table n) (family_by table n) i (drop k given)
      quiet_stop t = active_search j (along_first table n a.word.grouped.linked i a.word.there (active_other (words_in text table n) i (drop k given)) j l q (sym e ∙ t))

      pub quiet_next : x ≡ false → (m : ℕ) → m ≡ next_of table j → Quiet text table n given i k m
      quiet_next t m f =
          subst (Quiet text table n given i k) (sym f)
          (along_next table n a.word.grouped.linked i a.word.there (active_other (words_in text table n) i (drop k given)) j l q (sym e ∙ t))

    pub quiet_end : n ≤ j → n ≡ first_active (words_in text table n) (family_by table n) i (drop k given)
    quiet_end l = active_search n (along_no_first table n a.word.grouped.linked i a.word.there (active_other (words_in text table n) i (drop k given)) j l q)

    -- the next member is further on
    pub quiet_later : j < n → (m : ℕ) → m ≡ next_of table j → n - m < n - j
    quiet_later l m e = let b = a.word.grouped.linked.later j l in omega (arith, b, e, l)

pub ruleset quiets = (rest_word, grouped, rest_of_other, quiet_start, quiet_stop, quiet_next, quiet_end, quiet_later, rules)

-- the member whose tail is taken where the own one is not active
module _ (text table : List ℕ) (n : ℕ) (given : Word) (i k : ℕ) (a : IdleRest text table n given i k) where
  pub tail_rest : RestAsked text table n given i k
  tail_rest = a.rest

  pub tail_linked : LinkedWord table n i
  tail_linked = grouped_linked text table n i a.rest.word

  module _ (o : ℕ) (eo : o ≡ least n (is_other (family_by table n) i)) where
    -- a member for which the rest is active is another member, and so not before the first one
    active_other_lem : (f : ℕ) → f ≡ first_active (words_in text table n) (family_by table n) i (drop k given) → f < n → is_other (family_by table n) i f ≡ true
    unfolding first_active
    active_other_lem f e l =
        let B = words_in text table n in
        let w = words_length text table n in
        let q : ℕ → Bool = λ j. is_other (family_by table n) i j && active B (z_of B j) (drop k given) in
        let r = least_passes (length B) q (omega (arith, l, e, w)) in
        let y : q f ≡ true = rw e r in
        (simp and-eq-true_iff at y).0

    active_after : (f : ℕ) → f ≡ first_active (words_in text table n) (family_by table n) i (drop k given) → f < n → o ≤ f
    active_after f e l = by_cases (dec_le o f) (λ z. z) (λ z.
        absurd (true≢false (sym (active_other_lem f e l) ∙ (least_first n (is_other (family_by table n) i)).none f (omega (arith, z, eo)))))

    -- the first active other member, where there is one
    pub tail_active : (f : ℕ) → f ≡ first_active (words_in text table n) (family_by table n) i (drop k given) → f < n
        → f ≡ tail_member (words_in text table n) (family_by table n) i (drop k given)
    unfolding tail_member
    tail_active f e l =
        let q : ltb f n ≡ true = lt-ltb f n l in
        rw (a.idle, ← e, words_length text table n, q)

    -- else the first other member
    pub tail_quiet : (f : ℕ) → f ≡ first_active (words_in text table n) (family_by table n) i (drop k given) → n ≤ f → o < n
        → o ≡ tail_member (words_in text table n) (family_by table n) i (drop k given)
    unfolding tail_member first_other
    tail_quiet f e l h =
        let q : ltb f n ≡ false = le-ltb f n l in
        let r : ltb o n ≡ true = lt-ltb o n h in
        rw (a.idle, ← e, words_length text table n, q, ← eo, r)

    -- else i
    pub tail_none : n ≤ o → i ≡ tail_member (words_in text table n) (family_by table n) i (drop k given)
    unfolding tail_member first_other
    tail_none l =
        let f = first_active (words_in text table n) (family_by table n) i (drop k given) in
        let g : n ≤ f = by_cases (dec_le n f) (λ z. z) (λ z. let y = active_after f refl (omega (arith, z)) in absurd (omega (arith, y, z, l))) in
        let q : ltb f n ≡ false = le-ltb f n g in
        let r : ltb o n ≡ false = le-ltb o n l in
        rw (a.idle, words_length text table n, q, ← eo, r)

    -- the one other member is the first active one where there is an active one
    pub tail_one : o < n → (b : Bool) → b ≡ two_at_most table n i → b ≡ true → o ≡ tail_member (words_in text table n) (family_by table n) i (drop k given)
    tail_one l b eb g =
        let f = first_active (words_in text table n) (family_by table n) i (drop k given) in
        let p : is_other (family_by table n) i o ≡ true = rw eo (least_passes n (is_other (family_by table n) i) (omega (arith, l, eo))) in
        by_cases (dec_lt f n)
        (λ z. one_other table n i tail_linked (sym eb ∙ g) o f l z p (active_other_lem f refl z) ∙ tail_active f refl z)
        (λ z. tail_quiet f refl (omega (arith, z)) l)

pub ruleset tails = (tail_rest, tail_linked, tail_none, tail_one, tail_active, tail_quiet, rules)
