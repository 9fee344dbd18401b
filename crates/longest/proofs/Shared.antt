-- The common prefix of two places of a text, and the longest one at a place: letter by letter, and as the greatest of some values.
use Prim.Native.Nat.{ℕ, zero, suc, ◌+◌, ◌-◌, ◌<◌, ◌≤◌}
use mathlib.Core.List.{List}
use mathlib.Core.Logic.{by_cases}
use mathlib.Core.Path.{◌≡◌, sym, ap, ◌∙◌}
use native.Mathlib.Omega.{arith}
use native.Mathlib.Numerals.{add-one}
use native.Mathlib.Decide.{dec_lt, dec_le, ℕ_discrete}
use lib.ListN.{length, get_or, drop, length-drop, drop_of_length-le}
use lib.Seq.{drop-cons, get_or-drop}
use Rattle.words.specs.Words.{common_prefix}
use Rattle.words.proofs.Commons.{common_within, common_at, common_most, common_empty}
use Rattle.longest.specs.Longest.{most, shared, longest_at, next}

-- common prefixes by the letters at their places
pub shared_next : (text : List ℕ) (p q : ℕ) → p < length text → q < length text → shared text p q ≡ next (get_or text p 0) (get_or text q 0) (shared text (p + 1) (q + 1))
unfolding shared next common_prefix
shared_next text p q h k = rw (add-one p, add-one q, add-one (common_prefix (drop (suc p) text) (drop (suc q) text)), drop-cons text p 0 h, drop-cons text q 0 k)

pub shared_past : (text : List ℕ) (p q : ℕ) → length text ≤ q → shared text p q ≡ 0
unfolding shared
shared_past text p q h = rw (drop_of_length-le text h) (common_empty (drop p text))

pub shared_from_past : (text : List ℕ) (p q : ℕ) → length text ≤ p → shared text p q ≡ 0
unfolding shared common_prefix
shared_from_past text p q h = rw (drop_of_length-le text h)

-- the common prefix of two places, letter by letter
module _ (text : List ℕ) (p q : ℕ) where
  pub shared_fits : 0 < shared text p q → (p + shared text p q ≤ length text) × (q + shared text p q ≤ length text)
  unfolding shared
  shared_fits h =
      let w = common_within (drop p text) (drop q text) in
      let d = length-drop p text in
      let e = length-drop q text in
      omega (arith, h, w, d, e)

  pub shared_at : (k : ℕ) → k < shared text p q → get_or text (p + k) 0 ≡ get_or text (q + k) 0
  unfolding shared
  shared_at k h = sym (get_or-drop p text k 0) ∙ common_at (drop p text) (drop q text) k h ∙ get_or-drop q text k 0

  pub at_shared : (m : ℕ) → p + m ≤ length text → q + m ≤ length text → ((k : ℕ) → k < m → get_or text (p + k) 0 ≡ get_or text (q + k) 0) → m ≤ shared text p q
  unfolding shared
  at_shared m h l f =
      let d = length-drop p text in
      let e = length-drop q text in
      common_most (drop p text) (drop q text) m (omega (arith, h, d)) (omega (arith, l, e)) (λ k j. get_or-drop p text k 0 ∙ f k j ∙ sym (get_or-drop q text k 0))

-- the greatest of some values

pub most_least : (f : ℕ → ℕ) (a n q : ℕ) → a ≤ q → q < a + n → f q ≤ most f a n
unfolding most
most_least f a zero q h l = absurd (omega arith)
most_least f a (suc n) q h l = by_cases (ℕ_discrete q (a + n))
    (λ e. let d = ap f e in omega (arith, d))
    (λ e. let r = most_least f a n q h (omega (arith, e, l)) in omega (arith, r))

pub most_found : (f : ℕ → ℕ) (a n m : ℕ) → 0 < m → m ≤ most f a n → (q : ℕ) × (a ≤ q) × (q < a + n) × (m ≤ f q)
unfolding most
most_found f a zero m h l = absurd (omega (arith, h, l))
most_found f a (suc n) m h l = by_cases (dec_le m (f (a + n)))
    (λ e. (a + n, omega arith, omega arith, e))
    (λ e. let r = most_found f a n m h (omega (arith, e, l)) in (r.0, r.1, omega (arith, r.2), r.3))

pub longest_least : (text : List ℕ) (p q : ℕ) → p < length text → q < length text → (q ≡ p → ⊥) → shared text p q ≤ longest_at text p
unfolding longest_at
longest_least text p q i h ne = by_cases (dec_lt q p)
    (λ l. let r = most_least (shared text p) 0 p q (omega arith) (omega (arith, l)) in omega (arith, r))
    (λ l. let r = most_least (shared text p) (p + 1) (length text - (p + 1)) q (omega (arith, l, ne)) (omega (arith, h, i)) in omega (arith, r))

pub longest_found : (text : List ℕ) (p m : ℕ) → p < length text → 0 < m → m ≤ longest_at text p → (q : ℕ) × (q < length text) × (q ≡ p → ⊥) × (m ≤ shared text p q)
unfolding longest_at
longest_found text p m i h l = by_cases (dec_le m (most (shared text p) 0 p))
    (λ e. let r = most_found (shared text p) 0 p m h e in (r.0, omega (arith, r.2, i), (λ g. absurd (omega (arith, g, r.2))), r.3))
    (λ e. let r = most_found (shared text p) (p + 1) (length text - (p + 1)) m h (omega (arith, e, l)) in
    (r.0, omega (arith, r.2, i), (λ g. absurd (omega (arith, g, r.1))), r.3))
