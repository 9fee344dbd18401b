-- Laws of decimals: how many digits a number has.
use Prim.Native.Nat.{ℕ, zero, suc, ◌/◌, ◌≤◌, ◌<◌, ◌*◌}
use mathlib.Core.Bool.{Bool, true, false}
use mathlib.Core.Path.{◌≡◌, refl, sym, ap}
use native.Mathlib.Omega.{arith}
use borrow.Author.Tests.{lt-ltb, le-ltb, ltb-true, ltb-false}
use lib.Dec.{ltb}
use lib.ListN.{length, length-append}
use Rattle.spelling.specs.Decimal.{digits_of, count_up_to, FuelSuffices, digit_count, decimal}

-- counting with any sufficient limit gives the same
count_limit : (f g n : ℕ) → n ≤ f → n ≤ g → count_up_to f n ≡ count_up_to g n
unfolding count_up_to
count_limit zero zero n h k = refl
count_limit zero (suc g) n h k = sym (rw (lt-ltb n 10 (omega arith), count_up_to))
count_limit (suc f) zero n h k = rw (lt-ltb n 10 (omega arith), count_up_to)
count_limit (suc f) (suc g) n h k = go (λ a b. count_limit f g (n / 10) a b) (ltb n 10) refl
  where
    go : (n / 10 ≤ f → n / 10 ≤ g → count_up_to f (n / 10) ≡ count_up_to g (n / 10)) → (t : Bool) → ltb n 10 ≡ t → count_up_to (suc f) n ≡ count_up_to (suc g) n
    go r true e = rw (e, count_up_to)
    go r false e = rw (e, count_up_to) (ap suc (r (omega arith) (omega arith)))

pub fuel_suffices : FuelSuffices
fuel_suffices fuel more n h k = count_limit more fuel n k h

pub count_small : (n : ℕ) → n < 10 → digit_count n ≡ 1
unfolding count_up_to
count_small zero h = refl
count_small (suc n) h = rw (lt-ltb (suc n) 10 h, count_up_to)

pub count_more : (n : ℕ) → 10 ≤ n → digit_count n ≡ suc (digit_count (n / 10))
unfolding count_up_to
count_more zero h = absurd (omega arith)
count_more (suc n) h = rw (le-ltb (suc n) 10 h, count_up_to) (ap suc (count_limit n (suc n / 10) (suc n / 10) (omega arith) (omega arith)))

-- a number below ten times m has at most one digit more than the numbers below m
pub count_below : (most m : ℕ) → ((n : ℕ) → n < m → digit_count n ≤ most) → 0 < most → (n : ℕ) → n < 10 * m → digit_count n ≤ suc most
count_below most m f h n l = go (ltb n 10) refl
  where
    go : (t : Bool) → ltb n 10 ≡ t → digit_count n ≤ suc most
    go true e = omega (arith, count_small n (ltb-true n 10 e))
    go false e = omega (arith, count_more n (ltb-false n 10 e), f (n / 10) (omega arith))

pub length_digits : (k n : ℕ) → length (digits_of k n) ≡ k
unfolding digits_of
length_digits zero n = refl
length_digits (suc k) n = simp length-append (omega (arith, length_digits k (n / 10)))

pub length_decimal : (n : ℕ) → length (decimal n) ≡ digit_count n
unfolding decimal
length_decimal n = length_digits (digit_count n) n
