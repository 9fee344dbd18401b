-- Laws of dictionary order (document 000: lexicographic order): the test and the relation say the same, a common prefix counts for nothing, no two words come
-- before each other, and of two words one comes first. The ranks of letters are any, unless it is said that different letters differ in rank.
use Prim.Native.Nat.{ℕ, ◌+◌, ◌-◌, ◌≤◌, ◌<◌}
use mathlib.Core.Bool.{true, false, true≢false}
use mathlib.Core.List.{[], ◌∷◌, ◌++◌, append_assoc, append-nil, append_cancel_left}
use mathlib.Core.Path.{◌≡◌, refl, sym, ap, ◌∙◌, subst}
use mathlib.Core.Logic.{by_cases, ⊎_elim, ◌⊎◌, inl, inr}
use native.Mathlib.Omega.{arith}
use native.Mathlib.Decide.{dec_lt, ℕ_discrete}
use lib.Dec.{ltb}
use borrow.Author.Tests.{eq-eqb, ne_eqb, ltb-true, ltb-false, lt-ltb, le-ltb}
use Rattle.words.specs.Words.{Word}
use Rattle.least.specs.Order.{Injective, Before, shorter, lower, AtMost, before, house_rank}

-- the test on words that begin with the same letter
pub before_same : (rank : ℕ → ℕ) (x : ℕ) (u v : Word) → before rank (x ∷ u) (x ∷ v) ≡ before rank u v
unfolding before
before_same rank x u v = rw (eq-eqb x x refl)

-- the test on words that begin with different letters
pub before_unlike : (rank : ℕ → ℕ) (x y : ℕ) (u v : Word) → (x ≡ y → ⊥) → before rank (x ∷ u) (y ∷ v) ≡ ltb (rank x) (rank y)
unfolding before
before_unlike rank x y u v n = rw (ne_eqb x y n)

-- a common prefix counts for nothing
pub test_behind : (rank : ℕ → ℕ) (a u v : Word) → before rank (a ++ u) (a ++ v) ≡ before rank u v
test_behind rank [] u v = refl
test_behind rank (x ∷ a) u v = before_same rank x (a ++ u) (a ++ v) ∙ test_behind rank a u v

-- what comes before comes before behind a common prefix
pub before_behind : {rank : ℕ → ℕ} (a : Word) {u v : Word} → Before rank u v → Before rank (a ++ u) (a ++ v)
before_behind a {u} {v} (shorter x t e) = shorter x t (ap (a ++◌) e ∙ sym (append_assoc a u (x ∷ t)))
before_behind a {u} {v} (lower b x y s t e f h) = lower (a ++ b) x y s t (ap (a ++◌) e ∙ sym (append_assoc a b (x ∷ s))) (ap (a ++◌) f ∙ sym (append_assoc a b (y ∷ t))) h

-- words with a first letter: the same letters and the rests, or a lower rank
FirstLetters : (ℕ → ℕ) → ℕ → Word → ℕ → Word → Type 0
FirstLetters rank x u y v = ((x ≡ y) × (before rank u v ≡ true)) ⊎ (rank x < rank y)

-- where the test holds, one of the two does
first_letters : (rank : ℕ → ℕ) (x : ℕ) (u : Word) (y : ℕ) (v : Word) → before rank (x ∷ u) (y ∷ v) ≡ true → FirstLetters rank x u y v
unfolding FirstLetters
first_letters rank x u y v e = by_cases (ℕ_discrete x y)
    (λ q. inl (q, sym (before_same rank x u v) ∙ ap (λ (z : ℕ). before rank (x ∷ u) (z ∷ v)) q ∙ e))
    (λ n. inr (ltb-true (rank x) (rank y) (sym (before_unlike rank x y u v n) ∙ e)))

-- where one of the two does, the test holds
test_of_first_letters : (rank : ℕ → ℕ) (x : ℕ) (u : Word) (y : ℕ) (v : Word) → FirstLetters rank x u y v → before rank (x ∷ u) (y ∷ v) ≡ true
unfolding FirstLetters
test_of_first_letters rank x u y v (inl a) = ap (λ (z : ℕ). before rank (x ∷ u) (z ∷ v)) (sym a.0) ∙ before_same rank x u v ∙ a.1
test_of_first_letters rank x u y v (inr h) = before_unlike rank x y u v (λ q. let k : rank x ≡ rank y = ap rank q in absurd (omega (arith, h, k))) ∙ lt-ltb (rank x) (rank y) h

-- where the test holds, the first word comes before the second
pub before_of_test : (rank : ℕ → ℕ) (u v : Word) → before rank u v ≡ true → Before rank u v
unfolding before FirstLetters
before_of_test rank [] [] e = absurd (true≢false (sym e))
before_of_test rank [] (y ∷ v) e = shorter y v refl
before_of_test rank (x ∷ u) [] e = absurd (true≢false (sym e))
before_of_test rank (x ∷ u) (y ∷ v) e = ⊎_elim
    (λ a. subst (λ (z : ℕ). Before rank (x ∷ u) (z ∷ v)) a.0 (before_behind (x ∷ []) (before_of_test rank u v a.1)))
    (λ h. lower [] x y u v refl refl h)
    (first_letters rank x u y v e)

-- where the first word comes before the second, the test holds
pub test_of_before : {rank : ℕ → ℕ} {u v : Word} → Before rank u v → before rank u v ≡ true
unfolding before FirstLetters
test_of_before {rank} {u} {v} (shorter x t e) =
    ap (before rank u) e ∙ ap (λ (w : Word). before rank w (u ++ (x ∷ t))) (sym (append-nil u)) ∙ test_behind rank u [] (x ∷ t)
test_of_before {rank} {u} {v} (lower a x y s t e f h) =
    ap (λ (w : Word). before rank w v) e
    ∙ ap (before rank (a ++ (x ∷ s))) f
    ∙ test_behind rank a (x ∷ s) (y ∷ t)
    ∙ test_of_first_letters rank x s y t (inr h)

-- the test along three words
test_trans : (rank : ℕ → ℕ) (u v w : Word) → before rank u v ≡ true → before rank v w ≡ true → before rank u w ≡ true
unfolding before FirstLetters
test_trans rank [] [] w a b = absurd (true≢false (sym a))
test_trans rank (x ∷ u) [] w a b = absurd (true≢false (sym a))
test_trans rank [] (y ∷ v) [] a b = absurd (true≢false (sym b))
test_trans rank [] (y ∷ v) (z ∷ w) a b = refl
test_trans rank (x ∷ u) (y ∷ v) [] a b = absurd (true≢false (sym b))
test_trans rank (x ∷ u) (y ∷ v) (z ∷ w) a b = test_of_first_letters rank x u z w (go (λ f g. test_trans rank u v w f g) (first_letters rank x u y v a) (first_letters rank y v z w b))
  where
    go : (before rank u v ≡ true → before rank v w ≡ true → before rank u w ≡ true) → FirstLetters rank x u y v → FirstLetters rank y v z w → FirstLetters rank x u z w
    go r (inl f) (inl g) = inl (f.0 ∙ g.0, r f.1 g.1)
    go r (inl f) (inr l) = inr (subst (λ (c : ℕ). rank c < rank z) (sym f.0) l)
    go r (inr h) (inl g) = inr (subst (λ (c : ℕ). rank x < rank c) g.0 h)
    go r (inr h) (inr l) = inr (omega (arith, h, l))

-- the test fails of a word and itself
test_itself : (rank : ℕ → ℕ) (u : Word) → before rank u u ≡ false
unfolding before
test_itself rank [] = refl
test_itself rank (x ∷ u) = before_same rank x u u ∙ test_itself rank u

-- no word comes before itself
pub before_irreflexive : {rank : ℕ → ℕ} (u : Word) → Before rank u u → ⊥
before_irreflexive {rank} u b = true≢false (sym (test_of_before b) ∙ test_itself rank u)

-- what comes before a word that comes before a third, comes before the third
pub before_trans : {rank : ℕ → ℕ} {u v w : Word} → Before rank u v → Before rank v w → Before rank u w
before_trans {rank} {u} {v} {w} a b = before_of_test rank u w (test_trans rank u v w (test_of_before a) (test_of_before b))

-- no two words come before each other
pub before_asym : {rank : ℕ → ℕ} {u v : Word} → Before rank u v → Before rank v u → ⊥
before_asym {rank} {u} {v} a b = before_irreflexive u (before_trans a b)

-- at most, behind a common prefix
pub at_most_behind : {rank : ℕ → ℕ} (a : Word) {u v : Word} → AtMost rank u v → AtMost rank (a ++ u) (a ++ v)
at_most_behind a (inl e) = inl (ap (a ++◌) e)
at_most_behind a (inr b) = inr (before_behind a b)

-- at most, without a common prefix
pub at_most_cancel : {rank : ℕ → ℕ} (a u v : Word) → AtMost rank (a ++ u) (a ++ v) → AtMost rank u v
at_most_cancel a u v (inl e) = inl (append_cancel_left a u v e)
at_most_cancel {rank} a u v (inr b) = inr (before_of_test rank u v (sym (test_behind rank a u v) ∙ test_of_before b))

-- words that are at most each other are equal
pub at_most_unique : {rank : ℕ → ℕ} {u v : Word} → AtMost rank u v → AtMost rank v u → u ≡ v
at_most_unique (inl e) b = e
at_most_unique (inr a) (inl e) = sym e
at_most_unique (inr a) (inr b) = absurd (before_asym a b)

-- at most, along three words
pub at_most_trans : {rank : ℕ → ℕ} {u v w : Word} → AtMost rank u v → AtMost rank v w → AtMost rank u w
at_most_trans {rank} {u} {v} {w} (inl e) b = subst (λ (x : Word). AtMost rank x w) (sym e) b
at_most_trans {rank} {u} {v} {w} (inr a) (inl e) = inr (subst (Before rank u) e a)
at_most_trans {rank} {u} {v} {w} (inr a) (inr b) = inr (before_trans a b)

-- where the first word does not come before the second, the second is at most the first
pub at_most_of_not_before : {rank : ℕ → ℕ} → Injective rank → (u v : Word) → before rank u v ≡ false → AtMost rank v u
unfolding before
at_most_of_not_before {rank} inj [] [] e = inl refl
at_most_of_not_before {rank} inj [] (y ∷ v) e = absurd (true≢false e)
at_most_of_not_before {rank} inj (x ∷ u) [] e = inr (shorter x u refl)
at_most_of_not_before {rank} inj (x ∷ u) (y ∷ v) e = by_cases (ℕ_discrete x y)
    (λ q.
    subst (λ (z : ℕ). AtMost rank (z ∷ v) (x ∷ u)) q
    (at_most_behind (x ∷ []) (at_most_of_not_before inj u v (sym (before_same rank x u v) ∙ ap (λ (z : ℕ). before rank (x ∷ u) (z ∷ v)) q ∙ e))))
    (λ n.
    let h = ltb-false (rank x) (rank y) (sym (before_unlike rank x y u v n) ∙ e) in
    inr (lower [] y x v u refl refl (by_cases (dec_lt (rank y) (rank x)) (λ a. a) (λ a. absurd (n (inj x y (omega (arith, h, a))))))))

-- a word that comes before another and is no prefix of it comes before it whatever follows them
pub before_parted : {rank : ℕ → ℕ} (x y s t : Word) → Before rank x y → ((r : Word) → y ≡ x ++ r → ⊥) → Before rank (x ++ s) (y ++ t)
before_parted x y s t (shorter c r e) n = absurd (n (c ∷ r) e)
before_parted x y s t (lower a c d k l e f h) n =
    lower a c d (k ++ s) (l ++ t) (ap (◌++ s) e ∙ append_assoc a (c ∷ k) s) (ap (◌++ t) f ∙ append_assoc a (d ∷ l) t) h

-- the house table on the letters 0 to 31
house_low : (c : ℕ) → c < 32 → house_rank c ≡ c + 32
unfolding house_rank
house_low c h = rw (lt-ltb c 32 h)

-- on the letters 32 to 63
house_middle : (c : ℕ) → 32 ≤ c → c < 64 → house_rank c ≡ c - 32
unfolding house_rank
house_middle c h l = rw (le-ltb c 32 h, lt-ltb c 64 l)

-- on each further letter
house_high : (c : ℕ) → 64 ≤ c → house_rank c ≡ c
unfolding house_rank
house_high c h = rw (le-ltb c 32 (omega arith), le-ltb c 64 h)

-- the letter whose number is a letter's rank has that letter's number as its rank
house_twice : (c : ℕ) → house_rank (house_rank c) ≡ c
house_twice c = by_cases (dec_lt c 32)
    (λ a. ap house_rank (house_low c a) ∙ house_middle (c + 32) (omega arith) (omega arith) ∙ omega arith)
    (λ a. by_cases (dec_lt c 64)
    (λ b. ap house_rank (house_middle c (omega arith) b) ∙ house_low (c - 32) (omega arith) ∙ omega arith)
    (λ b. ap house_rank (house_high c (omega arith)) ∙ house_high c (omega arith)))

-- so different letters have different ranks
pub house_injective : Injective house_rank
house_injective x y e = sym (house_twice x) ∙ ap house_rank e ∙ house_twice y
