-- `layout::RelationWords` keeps `Grouped text table n` beside the text and the table, and what is kept there may hold in one way only. `Grouped-prop` shows that it does.
-- All that `Grouped` says are equations and bounds of numbers and what can't be, each shown in one way, but for the place that `Indexed.found` gives for a relation word.
-- That place is the only one: the list has n places, below n, and each of the n words stands at one of them, so no word stands at two.
-- So it is given, too, where it is only known that there is one (`found_where_listed`).
use Rattle.std.specs.Prelude.{ℕ, zero, suc, ◌+◌, ◌≤◌, ◌<◌, ◌≡◌, true, cond, List, [], ◌∷◌, eqb, length, get_or}
use Rattle.std.specs.List.{list_any}
use mathlib.Core.Path.{sym, ap, ◌∙◌}
use mathlib.Core.Bool.{Bool-set}
use mathlib.Core.Logic.{by_cases, ∥∥₁_elim, ∥∥₁_map}
use mathlib.Core.HLevel.{Π_prop, Σ_prop_path}
use native.Mathlib.Bridge.{le_prop}
use native.Mathlib.Nat.{ℕ_set}
use native.Mathlib.Omega.{arith}
use native.Mathlib.Decide.{ℕ_discrete}
use borrow.Author.Tests.{eq-eqb, ne_eqb}
use Rattle.std.proofs.lemmas.Bool.{or_left, or_right}
use Rattle.std.proofs.lemmas.Map.Steps.{le-length_from_below}
use Rattle.layout.specs.Places.{letters_bound}
use Rattle.layout.specs.Layout.{Laid, Indexed, Checked, start_of, first_of, order_of}
use Rattle.layout.specs.Families.{Grouped}

-- what f gives for the numbers below n, but for i
abbrev others : (ℕ → ℕ) → ℕ → ℕ → List ℕ
others f i zero = []
others f i (suc n) = cond (eqb n i) (others f i n) (f n ∷ others f i n)

module _ (f : ℕ → ℕ) (i : ℕ) where
  others_most : (n : ℕ) → length (others f i n) ≤ n
  others_most zero = omega arith
  others_most (suc n) =
      by_cases (ℕ_discrete n i)
      (λ e. rw (eq-eqb n i e) (omega (arith, others_most n)))
      (λ e. rw (ne_eqb n i e) (omega (arith, others_most n)))

  others_fewer : (n : ℕ) → i < n → length (others f i n) < n
  others_fewer zero h = absurd (omega arith)
  others_fewer (suc n) h =
      by_cases (ℕ_discrete n i)
      (λ e. rw (eq-eqb n i e) (omega (arith, others_most n)))
      (λ e. rw (ne_eqb n i e) (omega (arith, others_fewer n (omega arith))))

  among_others : (n k : ℕ) → k < n → (k ≡ i → ⊥) → list_any (eqb (f k)) (others f i n) ≡ true
  among_others zero k h d = absurd (omega arith)
  among_others (suc n) k h d =
      by_cases (ℕ_discrete n i)
      (λ e. rw (eq-eqb n i e) (among_others n k (omega arith) d))
      (λ e. rw (ne_eqb n i e)
      (by_cases (ℕ_discrete k n)
      (λ c. or_left (eqb (f k) (f n)) (list_any (eqb (f k)) (others f i n)) (eq-eqb (f k) (f n) (ap f c)))
      (λ c. or_right (eqb (f k) (f n)) (list_any (eqb (f k)) (others f i n)) (among_others n k (omega arith) d))))

-- where f gives each number below n for one below n, it gives none for two: without one of the two the rest, fewer than n, would have all n numbers
once : (f : ℕ → ℕ) (n : ℕ) → ((k : ℕ) → k < n → ∥ ((j : ℕ) × (j < n) × (f j ≡ k)) ∥₁) → (i j : ℕ) → i < n → j < n → f i ≡ f j → i ≡ j
once f n onto i j a b e = by_cases (ℕ_discrete j i) (λ c. sym c) (λ d. absurd (omega (arith, others_fewer f i n a, le-length_from_below (others f i n) n (all d))))
  where
    all : (j ≡ i → ⊥) → (k : ℕ) → k < n → list_any (eqb k) (others f i n) ≡ true
    all d k h =
        ∥∥₁_elim (onto k h) (Bool-set _ _)
        (λ g. by_cases (ℕ_discrete g.0 i)
        (λ c. rw (← g.2, c, e) (among_others f i n j b d))
        (λ c. rw (← g.2) (among_others f i n g.0 g.1 c)))

module _ (text table : List ℕ) (n : ℕ) where
  -- relation word k is listed at place j, under its first letter
  abbrev Listed : ℕ → ℕ → Type 0
  Listed k j = (first_of table (get_or text (start_of table k) 0) ≤ j) × (j < first_of table (get_or text (start_of table k) 0 + 1)) × (order_of table j ≡ k)

  -- the place that `found` gives, with what holds there
  abbrev Place : ℕ → Type 0
  Place k = (j : ℕ) × (first_of table (get_or text (start_of table k) 0) ≤ j) × (j < first_of table (get_or text (start_of table k) 0 + 1)) × (order_of table j ≡ k)

  abbrev place : (k : ℕ) → (j : ℕ) × Listed k j → Place k
  place k u = (u.0, u.1.0, u.1.1, u.1.2)

  -- the words are laid, the lists end within n places, and each word stands in one of them, though it need not be told where
  module _ (l : Laid text table n)
      (listed : (c : ℕ) → c < letters_bound → (first_of table c ≤ first_of table (c + 1)) × (first_of table (c + 1) ≤ n))
      (stands : (k : ℕ) → k < n → ∥ Place k ∥₁) where
    place_below : (k : ℕ) → k < n → (u : Place k) → u.0 < n
    place_below k h u =
        let c = l.letters k (start_of table k) h (omega arith) (l.some k h) in
        omega (arith, u.2, (listed (get_or text (start_of table k) 0) c).1)

    place_once : (k : ℕ) → k < n → (u v : Place k) → u.0 ≡ v.0
    place_once k h u v =
        once (order_of table) n (λ m b. ∥∥₁_map (stands m b) (λ f. (f.0, place_below m b f, f.3))) u.0 v.0 (place_below k h u) (place_below k h v) (u.3 ∙ sym v.3)

    place-prop : (k : ℕ) → k < n → IsProp (Place k)
    place-prop k h u v =
        ap (place k) (Σ_prop_path {B = Listed k} (λ j. hlevel (le_prop, ℕ_set)) {u = (u.0, (u.1, u.2, u.3))} {v = (v.0, (v.1, v.2, v.3))} (place_once k h u v))

    -- what `found` gives, for a caller who knows only that each word is listed
    pub found_where_listed : (k : ℕ) → k < n → Place k
    found_where_listed k h = ∥∥₁_elim (stands k h) (place-prop k h) (λ u. u)

  found-prop : Laid text table n → Indexed text table n → IsProp ((k : ℕ) → k < n → Place k)
  found-prop l x = Π_prop (λ k. Π_prop (λ h. place-prop l x.listed (λ m b. ∣ x.found m b ∣₁) k h))

  Indexed-prop : Laid text table n → IsProp (Indexed text table n)
  Indexed-prop l x = one_way (found-prop l x) x
    where
      one_way : IsProp ((k : ℕ) → k < n → Place k) → IsProp (Indexed text table n)
      one_way found = hlevel (le_prop, ℕ_set, found)

  Checked-prop : IsProp (Checked text table n)
  Checked-prop x = one_way (Indexed-prop x.laid) x
    where
      one_way : IsProp (Indexed text table n) → IsProp (Checked text table n)
      one_way indexed = hlevel (le_prop, ℕ_set, indexed)

  pub Grouped-prop : IsProp (Grouped text table n)
  Grouped-prop = hlevel (le_prop, ℕ_set, Checked-prop)
