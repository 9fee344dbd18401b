-- The bounded searches of `specs/Search.antt`: what they answer, and what a loop that searches upwards knows.
use Prim.Native.Nat.{ℕ, zero, suc, ◌+◌, ◌≤◌, ◌<◌}
use mathlib.Core.Bool.{Bool, true, false}
use mathlib.Core.Path.{◌≡◌, refl, sym, ap, ◌∙◌, subst}
use mathlib.Core.Bool.{true≢false}
use mathlib.Core.Logic.{by_cases}
use native.Mathlib.Omega.{arith}
use native.Mathlib.Decide.{dec_lt, ℕ_discrete}
use Rattle.words.specs.Search.{any_below, least, greatest}
use Rattle.words.proofs.Tests.{false_of}

-- one that passes makes the search true
pub any_of : (n : ℕ) (p : ℕ → Bool) (k : ℕ) → k < n → p k ≡ true → any_below n p ≡ true
unfolding any_below
any_of zero p k h e = absurd (omega arith)
any_of (suc n) p k h e = go (λ l. any_of n p k l e) (p n) refl
  where
    go : (k < n → any_below n p ≡ true) → (t : Bool) → p n ≡ t → any_below (suc n) p ≡ true
    go r true q = rw (q, any_below)
    go r false q = rw (q, any_below) (r (by_cases (dec_lt k n) (λ a. a) (λ a. absurd (true≢false (sym e ∙ subst (λ (m : ℕ). p m ≡ false) (omega arith) q)))))

-- where the search is true, one passes
pub any_found : (n : ℕ) (p : ℕ → Bool) → any_below n p ≡ true → (k : ℕ) × (k < n) × (p k ≡ true)
unfolding any_below
any_found zero p e = absurd (true≢false (sym e))
any_found (suc n) p e = go (λ h. any_found n p h) (p n) refl
  where
    go : (any_below n p ≡ true → (k : ℕ) × (k < n) × (p k ≡ true)) → (t : Bool) → p n ≡ t → (k : ℕ) × (k < suc n) × (p k ≡ true)
    go r true q = (n, omega arith, q)
    go r false q = let f = r (rw (q, any_below) at e) in (f.0, omega arith, f.2)

-- where none passes, the search is false
pub any_none : (n : ℕ) (p : ℕ → Bool) → ((k : ℕ) → k < n → p k ≡ false) → any_below n p ≡ false
unfolding any_below
any_none zero p f = refl
any_none (suc n) p f = rw (f n (omega arith), any_below) (any_none n p (λ k h. f k (omega arith)))

-- where the search is false, none passes
pub none_of : (n : ℕ) (p : ℕ → Bool) → any_below n p ≡ false → (k : ℕ) → k < n → p k ≡ false
none_of n p e k h = false_of (p k) (λ q. true≢false (sym (any_of n p k h q) ∙ e))

-- the test holds of no number below i
pub record NoneBelow (p : ℕ → Bool) (i : ℕ) : Type 0 where
  pub none : (k : ℕ) → k < i → p k ≡ false

pub none_start : (p : ℕ → Bool) → NoneBelow p 0
none_start p = record { none = λ k h. absurd (omega arith) }

pub none_more : (p : ℕ → Bool) (i : ℕ) → NoneBelow p i → p i ≡ false → NoneBelow p (i + 1)
none_more p i n h =
    record { none = λ k l. by_cases (dec_lt k i) (λ a. n.none k a) (λ a. subst (λ (m : ℕ). p m ≡ false) (omega arith) h) }

pub none_all : (p : ℕ → Bool) (i : ℕ) → NoneBelow p i → any_below i p ≡ false
none_all p i n = any_none i p n.none

-- the least number: it is at most the bound, nothing below it passes, and below the bound it passes
pub least_bound : (n : ℕ) (p : ℕ → Bool) → least n p ≤ n
unfolding least
least_bound zero p = omega arith
least_bound (suc n) p = go (p 0) refl (least_bound n (λ k. p (suc k)))
  where
    go : (t : Bool) → p 0 ≡ t → least n (λ k. p (suc k)) ≤ n → least (suc n) p ≤ suc n
    go true q h = rw (q, least) (omega arith)
    go false q h = rw (q, least) (omega arith)

pub least_passes : (n : ℕ) (p : ℕ → Bool) → least n p < n → p (least n p) ≡ true
unfolding least
least_passes zero p h = absurd (omega arith)
least_passes (suc n) p h = go (p 0) refl h (λ l. least_passes n (λ k. p (suc k)) l)
  where
    go : (t : Bool) → p 0 ≡ t → least (suc n) p < suc n → (least n (λ k. p (suc k)) < n → p (suc (least n (λ k. p (suc k)))) ≡ true) → p (least (suc n) p) ≡ true
    go true q l r = rw (q, least) q
    go false q l r = let l' = rw (q, least) at l in rw (q, least) (r (omega arith))

pub least_is : (n : ℕ) (p : ℕ → Bool) (i : ℕ) → i < n → NoneBelow p i → p i ≡ true → least n p ≡ i
unfolding least
least_is zero p i h s e = absurd (omega arith)
least_is (suc n) p zero h s e = rw (e, least)
least_is (suc n) p (suc i) h s e =
    rw (s.none 0 (omega arith), least) (ap suc (least_is n (λ k. p (suc k)) i (omega arith) (record { none = λ k l. s.none (suc k) (omega arith) }) e))

pub least_none : (n : ℕ) (p : ℕ → Bool) → NoneBelow p n → least n p ≡ n
unfolding least
least_none zero p s = refl
least_none (suc n) p s = rw (s.none 0 (omega arith), least) (ap suc (least_none n (λ k. p (suc k)) (record { none = λ k l. s.none (suc k) (omega arith) })))

pub least_first : (n : ℕ) (p : ℕ → Bool) → NoneBelow p (least n p)
unfolding least
least_first zero p = none_start p
least_first (suc n) p = go (p 0) refl (least_first n (λ k. p (suc k)))
  where
    go : (t : Bool) → p 0 ≡ t → NoneBelow (λ k. p (suc k)) (least n (λ k. p (suc k))) → NoneBelow p (least (suc n) p)
    go true q r = rw (q, least) (none_start p)
    go false q r = rw (q, least) (record { none = below r q })
      where
        below : NoneBelow (λ k. p (suc k)) (least n (λ k. p (suc k))) → p 0 ≡ false → (k : ℕ) → k < suc (least n (λ k. p (suc k))) → p k ≡ false
        below r q zero l = q
        below r q (suc k) l = r.none k (omega arith)

-- the greatest number: at most the bound, it passes unless it is 0, and nothing above it passes
pub greatest_bound : (n : ℕ) (p : ℕ → Bool) → greatest n p ≤ n
unfolding greatest
greatest_bound zero p = omega arith
greatest_bound (suc n) p = go (p (suc n)) refl (greatest_bound n p)
  where
    go : (t : Bool) → p (suc n) ≡ t → greatest n p ≤ n → greatest (suc n) p ≤ suc n
    go true q h = rw (q, greatest) (omega arith)
    go false q h = rw (q, greatest) (omega arith)

pub greatest_passes : (n : ℕ) (p : ℕ → Bool) → 0 < greatest n p → p (greatest n p) ≡ true
unfolding greatest
greatest_passes zero p h = absurd (omega arith)
greatest_passes (suc n) p h = go (p (suc n)) refl h (λ l. greatest_passes n p l)
  where
    go : (t : Bool) → p (suc n) ≡ t → 0 < greatest (suc n) p → (0 < greatest n p → p (greatest n p) ≡ true) → p (greatest (suc n) p) ≡ true
    go true q l r = rw (q, greatest) q
    go false q l r = rw (q, greatest) (r (rw (q, greatest) at l))

pub greatest_last : (n : ℕ) (p : ℕ → Bool) (k : ℕ) → greatest n p < k → k ≤ n → p k ≡ false
unfolding greatest
greatest_last zero p k h l = absurd (omega arith)
greatest_last (suc n) p k h l = go (p (suc n)) refl h (λ a b. greatest_last n p k a b)
  where
    go : (t : Bool) → p (suc n) ≡ t → greatest (suc n) p < k → (greatest n p < k → k ≤ n → p k ≡ false) → p k ≡ false
    go true q a r = let a' = rw (q, greatest) at a in absurd (omega arith)
    go false q a r = let a' = rw (q, greatest) at a in by_cases (ℕ_discrete k (suc n)) (λ e. subst (λ (m : ℕ). p m ≡ false) (sym e) q) (λ e. r a' (omega arith))

-- it is m where m passes and nothing above it does
pub greatest_is : (n : ℕ) (p : ℕ → Bool) (m : ℕ) → m ≤ n → (0 < m → p m ≡ true) → ((k : ℕ) → m < k → k ≤ n → p k ≡ false) → greatest n p ≡ m
greatest_is n p m h y out = by_cases (dec_lt (greatest n p) m)
    (λ l. absurd (true≢false (sym (y (omega (arith, l))) ∙ greatest_last n p m l h)))
    (λ l. by_cases (dec_lt m (greatest n p))
    (λ k. absurd (true≢false (sym (greatest_passes n p (omega (arith, k))) ∙ out (greatest n p) k (greatest_bound n p))))
    (λ k. omega (arith, l, k)))

-- searches with the same answers
pub any_same : (n : ℕ) (f g : ℕ → Bool) → ((k : ℕ) → k < n → f k ≡ g k) → any_below n f ≡ any_below n g
unfolding any_below
any_same zero f g h = refl
any_same (suc n) f g h = go (g n) refl (any_same n f g (λ k l. h k (omega (arith, l))))
  where
    go : (t : Bool) → g n ≡ t → any_below n f ≡ any_below n g → any_below (suc n) f ≡ any_below (suc n) g
    go true e r = rw (h n (omega arith) ∙ e, e, any_below)
    go false e r = rw (h n (omega arith) ∙ e, e, any_below) r

pub least_same : (n : ℕ) (f g : ℕ → Bool) → ((k : ℕ) → k < n → f k ≡ g k) → least n f ≡ least n g
unfolding least
least_same zero f g h = refl
least_same (suc n) f g h = go (g 0) refl (least_same n (λ k. f (suc k)) (λ k. g (suc k)) (λ k l. h (suc k) (omega (arith, l))))
  where
    go : (t : Bool) → g 0 ≡ t → least n (λ k. f (suc k)) ≡ least n (λ k. g (suc k)) → least (suc n) f ≡ least (suc n) g
    go true e r = rw (h 0 (omega arith) ∙ e, e, least)
    go false e r = rw (h 0 (omega arith) ∙ e, e, least) (ap suc r)

pub greatest_same : (n : ℕ) (f g : ℕ → Bool) → ((k : ℕ) → k ≤ n → f k ≡ g k) → greatest n f ≡ greatest n g
greatest_same n f g h =
    greatest_is n f (greatest n g) (greatest_bound n g) (λ l. h (greatest n g) (greatest_bound n g) ∙ greatest_passes n g l) (λ k l u. h k u ∙ greatest_last n g k l u)
