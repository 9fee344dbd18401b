-- Words by position: n letters of u from p on are n letters of v from q on. One composition law carries every argument on overlaps.
use Prim.Native.Nat.{ℕ, ◌+◌, ◌-◌, ◌≤◌, ◌<◌}
use mathlib.Core.Path.{◌≡◌, sym, ap, ◌∙◌}
use native.Mathlib.Omega.{arith}
use lib.ListN.{get_or}
use Rattle.words.specs.Words.{Word}

pub record Same (u : Word) (p : ℕ) (v : Word) (q : ℕ) (n : ℕ) : Type 0 where
  pub at : (k : ℕ) → k < n → get_or u (p + k) 0 ≡ get_or v (q + k) 0

letter : (u : Word) {i j : ℕ} → i ≡ j → get_or u i 0 ≡ get_or u j 0
letter u e = ap (λ n. get_or u n 0) e

pub same_sym : {u v : Word} {p q n : ℕ} → Same u p v q n → Same v q u p n
same_sym s = record { at = λ k h. sym (s.at k h) }

-- a part of what is the same
pub same_sub : {u v : Word} {p q n p' q' n' : ℕ} → Same u p v q n → (p ≤ p') × (p' + n' ≤ p + n) × (p' + q ≡ p + q') → Same u p' v q' n'
same_sub {u} {v} {p} {q} {n} {p'} {q'} {n'} s c =
    record { at = λ k h. letter u (omega arith) ∙ s.at (p' - p + k) (omega arith) ∙ letter v (omega arith) }

-- what is the same as a part of v, and v's part the same as w's
pub same_via : {u v w : Word} {p q n q' r m a c l : ℕ} → Same u p v q n → Same v q' w r m
    → (p ≤ a) × (a + l ≤ p + n) × (p + q' ≤ a + q) × (a + q + l ≤ p + q' + m) × (c + q' + p ≡ a + q + r) → Same u a w c l
same_via {u} {v} {w} {p} {q} {n} {q'} {r} {m} {a} {c} {l} s t h =
    record {
      at = λ k b. letter u (omega arith) ∙ s.at (a - p + k) (omega arith) ∙ letter v (omega arith) ∙ t.at (a + q - p - q' + k) (omega arith) ∙ letter w (omega arith);
    }
