-- What the test `is_prefix` says of two words: by append, and by position.
use Prim.Native.Nat.{ℕ, zero, suc, ◌+◌, ◌≤◌, ◌<◌}
use mathlib.Core.Bool.{Bool, true, false, ◌&&◌, true≢false, and-eq-true_iff, and_assoc}
use mathlib.Core.List.{[], ◌∷◌, ◌++◌, append-nil}
use mathlib.Core.Logic.{◌↔◌}
use mathlib.Core.Path.{◌≡◌, refl, sym, ap, ◌∙◌, subst}
use native.Mathlib.Omega.{arith}
use borrow.Author.Tests.{eqb-true, eq-eqb}
use lib.Dec.{eqb}
use lib.ListN.{length, get_or, take, drop, length-drop, drop_of_length-le}
use lib.Seq.{get_or-drop}
use Rattle.words.specs.Words.{Word, is_prefix, same_word}
use Rattle.words.proofs.Segments.{Same}

-- a word is a prefix of what begins with it
pub prefix_append : (a t : Word) → is_prefix a (a ++ t) ≡ true
unfolding is_prefix
prefix_append [] t = refl
prefix_append (x ∷ a) t = rw (eq-eqb x x refl) (prefix_append a t)

-- what begins with a is a followed by the rest
pub prefix_split : (a u : Word) → is_prefix a u ≡ true → a ++ drop (length a) u ≡ u
unfolding is_prefix
prefix_split [] u e = refl
prefix_split (x ∷ a) [] e = absurd (true≢false (sym e))
prefix_split (x ∷ a) (y ∷ u) e =
    let r = simp and-eq-true_iff at e in
    rw (eqb-true x y r.0) (ap (y ∷◌) (prefix_split a u r.1))

pub prefix_length : (a u : Word) → is_prefix a u ≡ true → length a ≤ length u
unfolding is_prefix
prefix_length [] u e = omega arith
prefix_length (x ∷ a) [] e = absurd (true≢false (sym e))
prefix_length (x ∷ a) (y ∷ u) e =
    let r = simp and-eq-true_iff at e in
    let h = prefix_length a u r.1 in
    omega arith

-- the letters of a prefix are those of the word
pub prefix_at : (a u : Word) → is_prefix a u ≡ true → (k : ℕ) → k < length a → get_or a k 0 ≡ get_or u k 0
unfolding is_prefix
prefix_at [] u e k h = absurd (omega arith)
prefix_at (x ∷ a) [] e k h = absurd (true≢false (sym e))
prefix_at (x ∷ a) (y ∷ u) e zero h = eqb-true x y (simp and-eq-true_iff at e).0
prefix_at (x ∷ a) (y ∷ u) e (suc k) h = prefix_at a u (simp and-eq-true_iff at e).1 k (omega arith)

-- letters that agree make a prefix
pub at_prefix : (a u : Word) → length a ≤ length u → ((k : ℕ) → k < length a → get_or a k 0 ≡ get_or u k 0) → is_prefix a u ≡ true
unfolding is_prefix
at_prefix [] u h f = refl
at_prefix (x ∷ a) [] h f = absurd (omega arith)
at_prefix (x ∷ a) (y ∷ u) h f = rw (eq-eqb x y (f 0 (omega arith))) (at_prefix a u (omega arith) (λ k l. f (suc k) (omega arith)))

-- the same at place q of a word
pub prefix_same : (a u : Word) (q : ℕ) → is_prefix a (drop q u) ≡ true → Same a 0 u q (length a)
prefix_same a u q e = record { at = λ k h. ap (λ n. get_or a n 0) (omega arith) ∙ prefix_at a (drop q u) e k h ∙ get_or-drop q u k 0 }

pub prefix_fits : (a u : Word) (q : ℕ) → 0 < length a → is_prefix a (drop q u) ≡ true → q + length a ≤ length u
prefix_fits a u q h e = let l = prefix_length a (drop q u) e in let d = length-drop q u in omega arith

pub same_prefix : (a u : Word) (q : ℕ) → q + length a ≤ length u → Same a 0 u q (length a) → is_prefix a (drop q u) ≡ true
same_prefix a u q h s =
    at_prefix a (drop q u) (simp length-drop (omega arith)) (λ k l. ap (λ n. get_or a n 0) (omega arith) ∙ s.at k l ∙ sym (get_or-drop q u k 0))

-- a prefix of a prefix is a prefix
pub prefix_trans : (a b c : Word) → is_prefix a b ≡ true → is_prefix b c ≡ true → is_prefix a c ≡ true
unfolding is_prefix
prefix_trans [] b c e f = refl
prefix_trans (x ∷ a) [] c e f = absurd (true≢false (sym e))
prefix_trans (x ∷ a) (y ∷ b) [] e f = absurd (true≢false (sym f))
prefix_trans (x ∷ a) (y ∷ b) (z ∷ c) e f =
    let r = simp and-eq-true_iff at e in
    let s = simp and-eq-true_iff at f in
    rw (eq-eqb x z (eqb-true x y r.0 ∙ eqb-true y z s.0)) (prefix_trans a b c r.1 s.1)

-- a prefix in two parts
pub prefix_both : (a b w : Word) → is_prefix (a ++ b) w ≡ (is_prefix a w && is_prefix b (drop (length a) w))
unfolding is_prefix
prefix_both [] b w = refl
prefix_both (x ∷ a) b [] = refl
prefix_both (x ∷ a) b (y ∷ w) = ap (eqb x y &&◌) (prefix_both a b w) ∙ sym (and_assoc (eqb x y) (is_prefix a w) (is_prefix b (drop (length a) w)))

-- two words of one length are prefixes of each other alike
eqb_swap : (x y : ℕ) → eqb x y ≡ eqb y x
eqb_swap x y = go (eqb x y) refl (eqb y x) refl
  where
    go : (a : Bool) → eqb x y ≡ a → (b : Bool) → eqb y x ≡ b → a ≡ b
    go true e true f = refl
    go true e false f = absurd (true≢false (sym (eq-eqb y x (sym (eqb-true x y e))) ∙ f))
    go false e true f = absurd (true≢false (sym (eq-eqb x y (sym (eqb-true y x f))) ∙ e))
    go false e false f = refl

pub prefix_swap : (a b : Word) → length a ≡ length b → is_prefix a b ≡ is_prefix b a
unfolding is_prefix
prefix_swap [] [] h = refl
prefix_swap [] (y ∷ b) h = absurd (omega arith)
prefix_swap (x ∷ a) [] h = absurd (omega arith)
prefix_swap (x ∷ a) (y ∷ b) h = rw (eqb_swap x y) (ap (eqb y x &&◌) (prefix_swap a b (omega arith)))

-- only the first letters of the longer word are asked
pub prefix_take : (a b : Word) → is_prefix a b ≡ is_prefix a (take (length a) b)
unfolding is_prefix
prefix_take [] b = refl
prefix_take (x ∷ a) [] = refl
prefix_take (x ∷ a) (y ∷ b) = ap (eqb x y &&◌) (prefix_take a b)

-- a prefix of the same length is the word
pub equal_of_prefix : (a b : Word) → length a ≡ length b → is_prefix a b ≡ true → a ≡ b
equal_of_prefix a b l e = sym (append-nil a) ∙ ap (a ++◌) (sym (drop_of_length-le b {i = length a} (omega arith))) ∙ prefix_split a b e

-- the test for equal words
pub same_word_iff_equal : (a b : Word) → same_word a b ≡ true ↔ (a ≡ b)
unfolding same_word
same_word_iff_equal a b = (
  λ e. let r = simp and-eq-true_iff at e in equal_of_prefix a b (eqb-true (length a) (length b) r.0) r.1,
  λ e.
      simp and-eq-true_iff (eq-eqb (length a) (length b) (ap length e), subst (λ u. is_prefix a u ≡ true) (append-nil a ∙ e) (prefix_append a [])),
)
