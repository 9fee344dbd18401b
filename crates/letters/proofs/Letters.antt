-- The search for the first unknown letter of a word; the largest letter, which says whether there is one; words with none.
use Prim.Native.Nat.{ℕ, zero, suc, ◌+◌, ◌≤◌, ◌<◌, max}
use mathlib.Core.Bool.{Bool, true, false, not, cond}
use mathlib.Core.List.{List, [], ◌∷◌, ◌++◌}
use mathlib.Core.Logic.{by_cases}
use mathlib.Core.Path.{◌≡◌, refl, sym, ap}
use native.Mathlib.Decide.{dec_lt}
use Rattle.std.specs.List.{position_or_len}
use Rattle.std.specs.Option.{unwrap_or}
use Rattle.std.proofs.Common.{Option, Some, None}
use Rattle.std.proofs.lemmas.List.Recursion.{is_position_or_len}
use Rattle.std.proofs.lemmas.List.Sums.{prefix_len-le-length}
use native.Mathlib.Omega.{arith}
use native.Mathlib.Numerals.{add-one}
use borrow.Author.Rules.{rules}
use borrow.Author.Tests.{lt-ltb, le-ltb, ltb-true, lt-leb, le-leb}
use lib.Dec.{ltb, leb}
use lib.ListN.{length, get_or, drop, drop_of_length-le}
use lib.Seq.{drop-cons}
use Rattle.words.specs.Words.{Word}
use Rattle.letters.specs.Letters.{largest}
use Rattle.words.specs.Letters.{first_unknown}

-- the first unknown letter is the first that the test of the search accepts
unknown_place : (letters : ℕ) (word : Word) → first_unknown letters word ≡ position_or_len (leb letters) word
unfolding first_unknown
unknown_place letters word = is_position_or_len (first_unknown letters) (leb letters) refl (λ x w. step x (first_unknown letters w)) word
  where
    step : (x n : ℕ) → cond (ltb x letters) (suc n) 0 ≡ cond (leb letters x) 0 (1 + n)
    step x n = by_cases (dec_lt x letters)
        (λ a. rw (lt-ltb x letters a, lt-leb letters x a) (omega arith))
        (λ a. rw (le-ltb x letters (omega (arith, a)), le-leb letters x (omega (arith, a))))

-- where none is accepted, the answer is the word's length
pub place_found : (letters : ℕ) (word : Word) (r : Option ℕ)
    → r ≡ cond (ltb (position_or_len (leb letters) word) (length word)) (Some (position_or_len (leb letters) word)) None
    → unwrap_or r (length word) ≡ first_unknown letters word
place_found letters word r e =
    let u = unknown_place letters word in
    let l = prefix_len-le-length (λ x. not (leb letters x)) word in
    by_cases (dec_lt (position_or_len (leb letters) word) (length word))
    (λ a. rw (e, lt-ltb (position_or_len (leb letters) word) (length word) a) (sym u))
    (λ a. rw (e, le-ltb (position_or_len (leb letters) word) (length word) (omega (arith, a))) (omega (arith, a, l, u)))

-- the largest letter is that of the letters passed or of the rest
pub record Topped (word : List ℕ) (i most : ℕ) : Type 0 where
  pub within : i ≤ length word
  pub split : largest word ≡ max most (largest (drop i word))

module _ (word : List ℕ) where
  pub topped_start : Topped word 0 0
  topped_start = record { within = omega arith; split = omega arith }

  module _ (i most : ℕ) (t : Topped word i most) where
    pub topped_more : (r : ℕ) → i < length word → r ≡ max most (get_or word i 0) → Topped word (i + 1) r
    unfolding largest
    topped_more r h e =
        let d : largest (drop i word) ≡ max (get_or word i 0) (largest (drop (i + 1) word)) = rw (drop-cons word i 0 h, add-one) in
        record { within = omega arith; split = omega arith }

    pub topped_end : length word ≤ i → most ≡ largest word
    unfolding largest
    topped_end h =
        let e : largest (drop i word) ≡ 0 = rw (drop_of_length-le word h) in
        omega arith

pub ruleset tops = (topped_start, topped_more, topped_end, rules)

-- where the largest letter is known, all are
all_known : (letters : ℕ) (word : List ℕ) → largest word < letters → length word ≡ first_unknown letters word
unfolding first_unknown largest
all_known letters [] h = omega arith
all_known letters (x ∷ word) h =
    let r = all_known letters word (omega arith) in
    rw (lt-ltb x letters (omega arith)) (omega arith)

pub known_by_largest : (letters : ℕ) (word : List ℕ) (most : ℕ) → most ≡ largest word → most < letters → length word ≡ first_unknown letters word
known_by_largest letters word most e h = all_known letters word (omega arith)

pub ruleset unknowns = (known_by_largest, rules)

-- a word with no unknown letter
pub known_of : (letters : ℕ) (w : Word) → length w ≤ first_unknown letters w → (i : ℕ) → i < length w → get_or w i 0 < letters
unfolding first_unknown
known_of letters [] h i l = absurd (omega arith)
known_of letters (x ∷ w) h i l = go (ltb x letters) refl h i l (known_of letters w)
  where
    go : (b : Bool) → ltb x letters ≡ b → suc (length w) ≤ cond b (suc (first_unknown letters w)) 0 → (i : ℕ) → i < suc (length w)
        → (length w ≤ first_unknown letters w → (i : ℕ) → i < length w → get_or w i 0 < letters) → get_or (x ∷ w) i 0 < letters
    go true q h zero l r = ltb-true x letters q
    go true q h (suc i) l r = r (omega arith) i (omega arith)
    go false q h i l r = absurd (omega arith)

pub of_known : (letters : ℕ) (w : Word) → ((i : ℕ) → i < length w → get_or w i 0 < letters) → first_unknown letters w ≡ length w
unfolding first_unknown
of_known letters [] f = refl
of_known letters (x ∷ w) f = rw (lt-ltb x letters (f 0 (omega arith))) (ap suc (of_known letters w (λ i h. f (suc i) (omega arith))))

-- a word with no unknown letter before another
pub unknown_append : (letters : ℕ) (u v : Word) → first_unknown letters u ≡ length u → first_unknown letters v ≡ length v → first_unknown letters (u ++ v) ≡ length (u ++ v)
unfolding first_unknown
unknown_append letters [] v e f = f
unknown_append letters (x ∷ u) v e f = go (ltb x letters) refl e (λ g. unknown_append letters u v g f)
  where
    go : (b : Bool) → ltb x letters ≡ b → cond b (suc (first_unknown letters u)) 0 ≡ suc (length u)
        → (first_unknown letters u ≡ length u → first_unknown letters (u ++ v) ≡ length (u ++ v))
        → cond (ltb x letters) (suc (first_unknown letters (u ++ v))) 0 ≡ suc (length (u ++ v))
    go true q e k = rw q (ap suc (k (omega arith)))
    go false q e k = absurd (omega arith)
