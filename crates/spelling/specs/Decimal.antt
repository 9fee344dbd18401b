-- A number in decimal, as text.
use Rattle.std.specs.Prelude.{ℕ, zero, suc, ◌+◌, ◌/◌, ◌%◌, ◌≤◌, true, false, List, [], ◌∷◌, ◌++◌, ◌≡◌, ltb}

-- the last k decimal digits of n, the most significant first
unfoldable pub digits_of : ℕ → ℕ → List ℕ
digits_of zero n = []
digits_of (suc k) n = digits_of k (n / 10) ++ ((48 + n % 10) ∷ [])

-- how many digits n has, where it has no more than `most` + 1
unfoldable pub count_up_to : ℕ → ℕ → ℕ
count_up_to zero n = 1
count_up_to (suc most) n = elim (ltb n 10) [ true ↦ 1 | false ↦ suc (count_up_to most (n / 10)) ]

-- a limit of the number itself is enough: more of it changes nothing
abbrev pub FuelSuffices : Type 0
FuelSuffices = (fuel more n : ℕ) → n ≤ fuel → n ≤ more → count_up_to more n ≡ count_up_to fuel n

-- how many digits n has: no number has more digits than n + 1 (FuelSuffices)
abbrev pub digit_count : ℕ → ℕ
digit_count n = count_up_to n n

-- n in decimal, with no leading zero
unfoldable pub decimal : ℕ → List ℕ
decimal n = digits_of (digit_count n) n
