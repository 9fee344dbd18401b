-- Laws of `take` and `drop`, and of words with and without letters.
use Prim.Native.Nat.{ℕ, zero, suc, ◌+◌, ◌-◌, ◌≤◌, ◌<◌}
use mathlib.Core.Bool.{false, true≢false}
use mathlib.Core.List.{List, [], ◌∷◌, ◌++◌}
use mathlib.Core.Path.{◌≡◌, refl, sym, ap, ◌∙◌}
use native.Mathlib.Omega.{arith}
use native.Mathlib.Nat.{sub-zero, zero-sub, suc-sub-suc}
use lib.ListN.{length, take, drop}
use lib.Seq.{take-nil, drop-append-add}
use Rattle.words.specs.Words.{Word, is_empty}

-- what is left of the first n elements behind k
pub drop_take : {A : Type 0} (k n : ℕ) (l : List A) → drop k (take n l) ≡ take (n - k) (drop k l)
drop_take zero n l = rw (sub-zero n)
drop_take (suc k) zero l = rw (zero-sub (suc k))
drop_take (suc k) (suc n) [] = sym (take-nil (suc n - suc k))
drop_take (suc k) (suc n) (x ∷ l) = rw (suc-sub-suc n k) (drop_take k n l)

-- what is left of two words behind the first
pub drop_past : (a b : Word) (n : ℕ) → length a ≤ n → drop n (a ++ b) ≡ drop (n - length a) b
drop_past a b n h =
    let e : length a + (n - length a) ≡ n = omega arith in
    sym (ap (λ m. drop m (a ++ b)) e) ∙ drop-append-add a b (n - length a)

-- a word of no letters is empty
pub no_letters : (u : Word) → length u ≡ 0 → u ≡ []
no_letters [] h = refl
no_letters (x ∷ u) h = absurd (omega arith)

-- a word that is not empty has a letter
pub some_letter : (u : Word) → is_empty u ≡ false → 0 < length u
some_letter [] e = absurd (true≢false e)
some_letter (x ∷ u) e = omega arith
