-- Bounded searches over the natural numbers, as tests that compute.
use Rattle.std.specs.Prelude.{ℕ, zero, suc, Bool, true, false}

-- some number below n passes
unfoldable pub any_below : ℕ → (ℕ → Bool) → Bool
any_below zero p = false
any_below (suc n) p = elim (p n) [ true ↦ true | false ↦ any_below n p ]

-- the least number below n that passes, or n
unfoldable pub least : ℕ → (ℕ → Bool) → ℕ
least zero p = zero
least (suc n) p = elim (p zero) [ true ↦ zero | false ↦ suc (least n (λ k. p (suc k))) ]

-- the greatest number from 1 to n that passes, or 0
unfoldable pub greatest : ℕ → (ℕ → Bool) → ℕ
greatest zero p = zero
greatest (suc n) p = elim (p (suc n)) [ true ↦ suc n | false ↦ greatest n p ]
