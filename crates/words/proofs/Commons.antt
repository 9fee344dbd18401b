-- The longest common prefix of two words, by position, and what a third word that shares letters with the first has in common with the second.
use Prim.Native.Nat.{ℕ, zero, suc, ◌+◌, ◌≤◌, ◌<◌, min}
use mathlib.Core.Bool.{Bool, true, false}
use mathlib.Core.List.{[], ◌∷◌, ◌++◌}
use mathlib.Core.Path.{◌≡◌, refl, sym, ap, ◌∙◌}
use mathlib.Core.Logic.{by_cases}
use native.Mathlib.Omega.{arith}
use native.Mathlib.Decide.{dec_lt, dec_le}
use lib.Dec.{eqb}
use borrow.Author.Tests.{eqb-true, eq-eqb}
use lib.ListN.{length, get_or, take, drop, length-take, get_or-append}
use lib.Seq.{get_or-take}
use Rattle.words.specs.Words.{Word, is_prefix, common_prefix}
use Rattle.words.proofs.Tests.{false_of}
use Rattle.words.proofs.Prefixes.{prefix_length, prefix_at, at_prefix}

-- it lies in both words
pub common_within : (a w : Word) → (common_prefix a w ≤ length a) × (common_prefix a w ≤ length w)
unfolding common_prefix
common_within [] w = omega arith
common_within (x ∷ a) [] = omega arith
common_within (x ∷ a) (y ∷ w) = go (eqb x y) refl (common_within a w)
  where
    go : (t : Bool) → eqb x y ≡ t → (common_prefix a w ≤ length a) × (common_prefix a w ≤ length w) → (common_prefix (x ∷ a) (y ∷ w) ≤ suc (length a)) × (common_prefix (x ∷ a) (y ∷ w) ≤ suc (length w))
    go true e h = rw e (omega arith)
    go false e h = rw e (omega arith)

-- the words agree on it
pub common_at : (a w : Word) (k : ℕ) → k < common_prefix a w → get_or a k 0 ≡ get_or w k 0
unfolding common_prefix
common_at [] w k h = absurd (omega arith)
common_at (x ∷ a) [] k h = absurd (omega arith)
common_at (x ∷ a) (y ∷ w) k h = go k (eqb x y) refl h (λ i l. common_at a w i l)
  where
    go : (k : ℕ) (t : Bool) → eqb x y ≡ t → k < common_prefix (x ∷ a) (y ∷ w) → ((i : ℕ) → i < common_prefix a w → get_or a i 0 ≡ get_or w i 0)
        → get_or (x ∷ a) k 0 ≡ get_or (y ∷ w) k 0
    go zero true e l f = eqb-true x y e
    go (suc k) true e l f = let l' = rw e at l in f k (omega arith)
    go k false e l f = let l' = rw e at l in absurd (omega arith)

-- letters on which they agree belong to it
pub common_most : (a w : Word) (m : ℕ) → m ≤ length a → m ≤ length w → ((k : ℕ) → k < m → get_or a k 0 ≡ get_or w k 0) → m ≤ common_prefix a w
unfolding common_prefix
common_most a w zero h l f = omega arith
common_most [] w (suc m) h l f = absurd (omega arith)
common_most (x ∷ a) [] (suc m) h l f = absurd (omega arith)
common_most (x ∷ a) (y ∷ w) (suc m) h l f =
    let i = common_most a w m (omega arith) (omega arith) (λ k b. f (suc k) (omega arith)) in
    rw (eq-eqb x y (f 0 (omega arith))) (omega arith)

-- behind it they differ, or one of them ends
pub common_differ : (a w : Word) → common_prefix a w < length a → common_prefix a w < length w → get_or a (common_prefix a w) 0 ≡ get_or w (common_prefix a w) 0 → ⊥
common_differ a w h l e =
    let m = common_most a w (suc (common_prefix a w)) (omega arith) (omega arith)
    (λ k b. by_cases (dec_lt k (common_prefix a w)) (λ c. common_at a w k c) (λ c. ap (λ n. get_or a n 0) (omega arith) ∙ e ∙ ap (λ n. get_or w n 0) (omega arith))) in
    omega arith

-- the number on which they agree and behind which they do not
pub common_is : (a w : Word) (m : ℕ) → m ≤ length a → m ≤ length w → ((k : ℕ) → k < m → get_or a k 0 ≡ get_or w k 0)
    → (m < length a → m < length w → get_or a m 0 ≡ get_or w m 0 → ⊥) → common_prefix a w ≡ m
common_is a w m h l f d =
    let g = common_most a w m h l f in
    let b = common_within a w in
    by_cases (dec_lt m (common_prefix a w)) (λ c. absurd (d (omega arith) (omega arith) (common_at a w m c))) (λ c. omega arith)

-- a word is a prefix of another where all of it is common
pub common_prefix_lem : (a w : Word) → length a ≤ common_prefix a w → is_prefix a w ≡ true
common_prefix_lem a w h = let b = common_within a w in at_prefix a w (omega arith) (λ k l. common_at a w k (omega arith))

pub prefix_common : (a w : Word) → is_prefix a w ≡ true → common_prefix a w ≡ length a
prefix_common a w e =
    let l = prefix_length a w e in
    let b = common_within a w in
    let m = common_most a w (length a) (omega arith) l (prefix_at a w e) in
    omega arith

pub common_no_prefix : (a w : Word) → common_prefix a w < length a → is_prefix a w ≡ false
common_no_prefix a w h = false_of (is_prefix a w) (λ e. let c = prefix_common a w e in absurd (omega arith))

-- a and b share l letters, a and w share m: what b and w share
pub common_via : (a b w : Word) (k : ℕ) → k ≤ common_prefix a b → k ≤ common_prefix a w → k ≤ common_prefix b w
common_via a b w k h l =
    let x = common_within a b in
    let y = common_within a w in
    common_most b w k (omega arith) (omega arith) (λ i c. sym (common_at a b i (omega arith)) ∙ common_at a w i (omega arith))

-- they leave w at the same place, if they part later
pub common_later : (a b w : Word) → common_prefix a w < common_prefix a b → common_prefix b w ≡ common_prefix a w
common_later a b w h =
    let x = common_within a b in
    let y = common_within a w in
    common_is b w (common_prefix a w) (omega arith) (omega arith) (λ i c. sym (common_at a b i (omega arith)) ∙ common_at a w i c)
    (λ c d e. common_differ a w (omega arith) d (common_at a b (common_prefix a w) h ∙ e))

-- b leaves w where it leaves a, if a goes on along w
pub common_sooner : (a b w : Word) → common_prefix a b < common_prefix a w → common_prefix b w ≡ common_prefix a b
common_sooner a b w h =
    let x = common_within a b in
    let y = common_within a w in
    common_is b w (common_prefix a b) (omega arith) (omega arith) (λ i c. sym (common_at a b i c) ∙ common_at a w i (omega arith))
    (λ c d e. common_differ a b (omega arith) c (common_at a w (common_prefix a b) h ∙ sym e))

-- the prefix of n letters of a
pub common_take : (n : ℕ) (a w : Word) → n ≤ length a → common_prefix (take n a) w ≡ min n (common_prefix a w)
common_take n a w h =
    let x = common_within a w in
    let t = length-take n a in
    by_cases (dec_le n (common_prefix a w))
    (λ c. common_is (take n a) w (min n (common_prefix a w)) (omega arith) (omega arith) (λ k l. get_or-take n a k 0 (omega arith) ∙ common_at a w k (omega arith)) (λ d e f. absurd (omega arith)))
    (λ c.
    let m : min n (common_prefix a w) ≡ common_prefix a w = omega arith in
    rw m
    (common_is (take n a) w (common_prefix a w) (omega arith) (omega arith) (λ k l. get_or-take n a k 0 (omega arith) ∙ common_at a w k l)
    (λ d e f. common_differ a w (omega arith) e (sym (get_or-take n a (common_prefix a w) 0 (omega arith)) ∙ f))))

-- x leaves c before c's end: what follows c does not matter
pub common_before : (x c b : Word) → common_prefix x c < length c → common_prefix x (c ++ b) ≡ common_prefix x c
unfolding common_prefix
common_before [] c b h = refl
common_before (x ∷ xs) [] b h = absurd (omega arith)
common_before (x ∷ xs) (y ∷ c) b h = go (eqb x y) refl h (λ l. common_before xs c b l)
  where
    go : (t : Bool) → eqb x y ≡ t → common_prefix (x ∷ xs) (y ∷ c) < suc (length c) → (common_prefix xs c < length c → common_prefix xs (c ++ b) ≡ common_prefix xs c)
        → common_prefix (x ∷ xs) (y ∷ (c ++ b)) ≡ common_prefix (x ∷ xs) (y ∷ c)
    go true e l f = let l' = rw e at l in rw e (ap suc (f (omega arith)))
    go false e l f = rw e

-- x goes along all of c, and then along b
pub common_through : (x c b : Word) → length c ≤ common_prefix x c → common_prefix x (c ++ b) ≡ length c + common_prefix (drop (length c) x) b
unfolding common_prefix
common_through x [] b h = omega arith
common_through [] (y ∷ c) b h = absurd (omega arith)
common_through (x ∷ xs) (y ∷ c) b h = go (eqb x y) refl h (λ l. common_through xs c b l)
  where
    go : (t : Bool) → eqb x y ≡ t → suc (length c) ≤ common_prefix (x ∷ xs) (y ∷ c) → (length c ≤ common_prefix xs c → common_prefix xs (c ++ b) ≡ length c + common_prefix (drop (length c) xs) b)
        → common_prefix (x ∷ xs) (y ∷ (c ++ b)) ≡ suc (length c) + common_prefix (drop (length c) xs) b
    go true e l f = let l' = rw e at l in let i = f (omega arith) in rw e (omega arith)
    go false e l f = let l' = rw e at l in absurd (omega arith)

-- what x has in common with c, and that is more of what is behind c, reaches through c
pub common_reaches : (x c b : Word) → length c ≤ common_prefix x (c ++ b) → length c ≤ common_prefix x c
common_reaches x c b h =
    let i = common_within x (c ++ b) in
    common_most x c (length c) (omega arith) (omega arith) (λ k l. common_at x (c ++ b) k (omega arith) ∙ get_or-append c b 0 k l)

pub common_shorter : (x c b : Word) (m : ℕ) → m ≤ common_prefix x (c ++ b) → m ≤ length c → m ≤ common_prefix x c
common_shorter x c b m h l =
    let i = common_within x (c ++ b) in
    common_most x c m (omega arith) l (λ k j. common_at x (c ++ b) k (omega arith) ∙ get_or-append c b 0 k (omega arith))

-- nothing in common with the empty word
pub common_empty : (x : Word) → common_prefix x [] ≡ 0
unfolding common_prefix
common_empty [] = refl
common_empty (y ∷ x) = refl
