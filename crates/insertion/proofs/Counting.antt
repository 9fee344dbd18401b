-- How many of the first n numbers pass a test.
use Prim.Native.Nat.{ℕ, zero, suc, ◌+◌, ◌≤◌, ◌<◌}
use mathlib.Core.Bool.{Bool, true, false}
use mathlib.Core.Path.{◌≡◌, refl, ap, subst}
use mathlib.Core.Logic.{by_cases}
use native.Mathlib.Omega.{arith}
use native.Mathlib.Numerals.{add-one}
use native.Mathlib.Decide.{dec_lt, ℕ_discrete}
use lib.Dec.{eqb, ltb}
use borrow.Author.Tests.{lt-ltb, le-ltb, eq-eqb, ne_eqb}
use Rattle.insertion.specs.Inserting.{count}

pub count_bound : (p : ℕ → Bool) (n : ℕ) → count p n ≤ n
unfolding count
count_bound p zero = omega arith
count_bound p (suc n) = go (p n) refl (count_bound p n)
  where
    go : (t : Bool) → p n ≡ t → count p n ≤ n → count p (suc n) ≤ suc n
    go true e h = rw e (omega arith)
    go false e h = rw e (omega arith)

pub count_up : (p : ℕ → Bool) (k d : ℕ) → count p k ≤ count p (k + d)
unfolding count
count_up p k zero = let e : k ≡ k + 0 = omega arith in subst (λ (j : ℕ). count p k ≤ count p j) e (omega arith)
count_up p k (suc d) = let e : suc (k + d) ≡ k + suc d = omega arith in subst (λ (j : ℕ). count p k ≤ count p j) e (go (p (k + d)) refl (count_up p k d))
  where
    go : (t : Bool) → p (k + d) ≡ t → count p k ≤ count p (k + d) → count p k ≤ count p (suc (k + d))
    go true e h = rw e (omega arith)
    go false e h = rw e (omega arith)

pub count_same : (p r : ℕ → Bool) (n : ℕ) → ((i : ℕ) → i < n → p i ≡ r i) → count p n ≡ count r n
unfolding count
count_same p r zero f = refl
count_same p r (suc n) f = rw (f n (omega arith), count_same p r n (λ i h. f i (omega arith)))

pub count_yes : (p : ℕ → Bool) (k : ℕ) → p k ≡ true → count p (k + 1) ≡ count p k + 1
unfolding count
count_yes p k e = rw (add-one k, add-one (count p k), e)

pub count_no : (p : ℕ → Bool) (k : ℕ) → p k ≡ false → count p (k + 1) ≡ count p k
unfolding count
count_no p k e = rw (add-one, e)

pub count_none : (p : ℕ → Bool) (n : ℕ) → ((i : ℕ) → i < n → p i ≡ false) → count p n ≡ 0
unfolding count
count_none p zero f = refl
count_none p (suc n) f = rw (f n (omega arith)) (count_none p n (λ i h. f i (omega arith)))

pub count_all : (p : ℕ → Bool) (n : ℕ) → ((i : ℕ) → i < n → p i ≡ true) → count p n ≡ n
unfolding count
count_all p zero f = refl
count_all p (suc n) f = rw (f n (omega arith)) (ap suc (count_all p n (λ i h. f i (omega arith))))

-- those up to c are those below c and those at c
pub count_split : (f : ℕ → ℕ) (c n : ℕ) → count (λ i. ltb (f i) (c + 1)) n ≡ count (λ i. ltb (f i) c) n + count (λ i. eqb (f i) c) n
unfolding count
count_split f c zero = omega arith
count_split f c (suc n) =
    let h = count_split f c n in
    by_cases (dec_lt (f n) c)
    (λ a. rw (lt-ltb (f n) (c + 1) (omega arith), lt-ltb (f n) c a, ne_eqb (f n) c (λ z. omega arith)) (omega arith))
    (λ a.
    by_cases (ℕ_discrete (f n) c)
    (λ b. rw (lt-ltb (f n) (c + 1) (omega arith), le-ltb (f n) c (omega arith), eq-eqb (f n) c b) (omega arith))
    (λ b. rw (le-ltb (f n) (c + 1) (omega arith), le-ltb (f n) c (omega arith), ne_eqb (f n) c b) (omega arith)))
