-- The laws of reading and comparing a word that is given as two slices.
use Prim.Native.Nat.{ℕ, suc, ◌+◌, ◌-◌, ◌≤◌, ◌<◌, min}
use mathlib.Core.Bool.{true, false}
use mathlib.Core.List.{[], ◌∷◌, ◌++◌}
use mathlib.Core.Path.{◌≡◌, refl, sym, ap, ◌∙◌, subst}
use mathlib.Core.Logic.{by_cases}
use native.Mathlib.Omega.{arith}
use native.Mathlib.Decide.{dec_lt, ℕ_discrete}
use lib.Dec.{eqb, ltb}
use borrow.Author.Rules.{rules}
use borrow.Author.Tests.{lt-ltb, le-ltb, eq-eqb, ne_eqb}
use lib.ListN.{length, get_or, drop, length-append, length-drop, get_or-append, drop_of_length-le}
use lib.Seq.{get_or-drop, get_or-append-add, drop-append-le}
use mir.Syntax.{w64}
use mir.Val.{Fits}
use Rattle.words.specs.Words.{Word, is_empty, is_prefix, common_prefix, part}
use Rattle.words.proofs.Lists.{drop_past}
use Rattle.words.proofs.Parts.{part_length, part_at, part_drop}
use Rattle.words.proofs.Commons.{common_within, common_at, common_most, common_is, common_prefix_lem, common_no_prefix, common_before, common_through, common_reaches, common_shorter, common_empty}
use Rattle.layout.specs.Layout.{Span}
use Rattle.joined.specs.Joined.{has_place, Agreed}

-- the letter of a ++ b at a place of a, and at a place of b
pub left_at : (a b : Word) (q : ℕ) → q < length a → get_or a q 0 ≡ get_or (a ++ b) q 0
left_at a b q h = sym (get_or-append a b 0 q h)

pub right_at : (a b : Word) (q : ℕ) → length a ≤ q → get_or b (q - length a) 0 ≡ get_or (a ++ b) q 0
right_at a b q h = sym (get_or-append-add a b (q - length a) 0) ∙ ap (λ n. get_or (a ++ b) n 0) (omega arith)

pub place_left : (a b : Word) (q : ℕ) → q < length a → true ≡ has_place (a ++ b) q
unfolding has_place
place_left a b q h = let l = length-append a b in sym (lt-ltb q (length (a ++ b)) (omega arith))

pub place_right : (a b : Word) (q : ℕ) → length a ≤ q → ltb (q - length a) (length b) ≡ has_place (a ++ b) q
unfolding has_place
place_right a b q h =
    let l = length-append a b in
    by_cases (dec_lt q (length (a ++ b)))
    (λ c. rw (lt-ltb q (length (a ++ b)) c, lt-ltb (q - length a) (length b) (omega arith)))
    (λ c. rw (le-ltb q (length (a ++ b)) (omega arith), le-ltb (q - length a) (length b) (omega arith)))

pub ruleset letters = (left_at, right_at, place_left, place_right, rules)

-- the comparison with s has come to letter i: so many of the part agree with s at place q, and at most n can
pub record Comparing (text : Word) (from to : ℕ) (s : Word) (q n i : ℕ) : Type 0 where
  pub upwards : from ≤ to
  pub inside : to ≤ length text
  pub within : q < length s
  pub most : n ≡ min (to - from) (length s - q)
  pub passed : i ≤ common_prefix (part text from to) (drop q s)

module _ (text : Word) (from to : ℕ) (s : Word) (q : ℕ) where
  pub compare_past : (m : ℕ) → Agreed text from to s q m → length s ≤ q → 0 ≡ common_prefix (part text from to) (drop q s)
  compare_past m a h = rw (drop_of_length-le s h) (sym (common_empty (part text from to)))

  pub compare_start : (m n : ℕ) → Agreed text from to s q m → q < length s → n ≡ min (to - from) (length s - q) → Comparing text from to s q n m
  compare_start m n a h e = record { upwards = a.span.upwards; inside = a.span.inside; within = h; most = e; passed = a.passed }

  module _ (n i : ℕ) (a : Comparing text from to s q n i) where
    bounds : (length (part text from to) ≡ to - from) × (length (drop q s) ≡ length s - q)
    bounds = (part_length text from to a.inside, length-drop q s)

    pub compare_stop : i < n → (get_or text (from + i) 0 ≡ get_or s (q + i) 0 → ⊥) → i ≡ common_prefix (part text from to) (drop q s)
    compare_stop h d =
        let b = bounds in
        sym (common_is (part text from to) (drop q s) i (omega arith) (omega arith) (λ k l. common_at (part text from to) (drop q s) k (omega arith))
        (λ x y e. d (sym (part_at text from to i (omega arith)) ∙ e ∙ get_or-drop q s i 0)))

    pub compare_more : i < n → get_or text (from + i) 0 ≡ get_or s (q + i) 0 → Comparing text from to s q n (i + 1)
    compare_more h e =
        let b = bounds in
        record {
          upwards = a.upwards;
          inside = a.inside;
          within = a.within;
          most = a.most;
          passed = common_most (part text from to) (drop q s) (i + 1) (omega arith) (omega arith)
              (λ k l. by_cases (dec_lt k i) (λ c. common_at (part text from to) (drop q s) k (omega arith))
              (λ c. subst (λ (j : ℕ). get_or (part text from to) j 0 ≡ get_or (drop q s) j 0) (omega arith) (part_at text from to i (omega arith) ∙ e ∙ sym (get_or-drop q s i 0))));
        }

    pub compare_end : n ≤ i → n ≡ common_prefix (part text from to) (drop q s)
    compare_end h =
        let b = bounds in
        let w = common_within (part text from to) (drop q s) in
        omega arith

pub ruleset compares = (compare_past, compare_start, compare_stop, compare_more, compare_end, rules)

-- the cases of the comparison with a word in two slices: it begins in the second, runs from the first into the second, or stays in the first
module _ (text : Word) (from to : ℕ) (a b : Word) (q m : ℕ) (g : Agreed text from to (a ++ b) q m) where
  pub agreed_right : length a ≤ q → Agreed text from to b (q - length a) m
  agreed_right h = record { span = g.span; passed = rw (← drop_past a b q h) g.passed }

  pub agree_right : (r : ℕ) → length a ≤ q → r ≡ common_prefix (part text from to) (drop (q - length a) b) → r ≡ common_prefix (part text from to) (drop q (a ++ b))
  agree_right r h e = rw (drop_past a b q h) e

  module _ (h : q < length a) where
    -- the word at place q, and how long its first part is
    here : (drop q (a ++ b) ≡ drop q a ++ b) × (length (drop q a) ≡ length a - q)
    here = (drop-append-le q a b (omega arith), length-drop q a)

    passed_here : m ≤ common_prefix (part text from to) (drop q a ++ b)
    passed_here = rw (← here.0) g.passed

    through : length a - q ≤ common_prefix (part text from to) (drop q a) → common_prefix (part text from to) (drop q (a ++ b)) ≡ length a - q + common_prefix (part text (from + (length a - q)) to) b
    through l =
        let e = common_through (part text from to) (drop q a) b (omega (arith, here)) in
        rw here.0 (rw (here.1, part_drop text from to (length a - q)) at e)

    span_next : length a - q ≤ common_prefix (part text from to) (drop q a) → Span text (from + (length a - q)) to
    span_next l =
        let w = common_within (part text from to) (drop q a) in
        let p = part_length text from to g.span.inside in
        record { upwards = omega (arith, g.span.upwards); inside = g.span.inside }

    fits_sum : (n : ℕ) → n ≡ common_prefix (part text from to) (drop q (a ++ b)) → Fits w64 to → Fits w64 n
    fits_sum n e f =
        let w = common_within (part text from to) (drop q (a ++ b)) in
        let p = part_length text from to g.span.inside in
        record { fits = omega (arith, f.fits) }

    far : length a - q ≤ m → length a - q ≤ common_prefix (part text from to) (drop q a)
    far l =
        let p = passed_here in
        let w = here in
        omega (arith, common_reaches (part text from to) (drop q a) b (omega arith))

    pub agreed_far : length a - q ≤ m → Agreed text (from + (length a - q)) to b 0 (m - (length a - q))
    agreed_far l =
        let t = through (far l) in
        record { span = span_next (far l); passed = omega (arith, g.passed) }

    pub agree_far : (r : ℕ) → length a - q ≤ m → r ≡ common_prefix (part text (from + (length a - q)) to) (drop 0 b)
        → length a - q + r ≡ common_prefix (part text from to) (drop q (a ++ b))
    agree_far r l e = let t = through (far l) in omega arith

    pub agree_far_fits : (r : ℕ) → length a - q ≤ m → r ≡ common_prefix (part text (from + (length a - q)) to) (drop 0 b) → Fits w64 to → Fits w64 (length a - q + r)
    agree_far_fits r l e f = fits_sum (length a - q + r) (agree_far r l e) f

    pub agreed_near : m < length a - q → Agreed text from to a q m
    agreed_near l =
        let w = here in
        record { span = g.span; passed = common_shorter (part text from to) (drop q a) b m passed_here (omega arith) }

    module _ (r : ℕ) (e : r ≡ common_prefix (part text from to) (drop q a)) where
      pub agree_near : r < length a - q → r ≡ common_prefix (part text from to) (drop q (a ++ b))
      agree_near l =
          let w = here in
          let f = common_before (part text from to) (drop q a) b (omega arith) in
          rw here.0 (e ∙ sym f)

      pub agreed_next : length a - q ≤ r → Agreed text (from + (length a - q)) to b 0 0
      agreed_next l = record { span = span_next (omega arith); passed = omega arith }

      pub agree_next : (n : ℕ) → length a - q ≤ r → n ≡ common_prefix (part text (from + (length a - q)) to) (drop 0 b)
          → length a - q + n ≡ common_prefix (part text from to) (drop q (a ++ b))
      agree_next n l f = let t = through (omega arith) in omega arith

      pub agree_next_fits : (n : ℕ) → length a - q ≤ r → n ≡ common_prefix (part text (from + (length a - q)) to) (drop 0 b) → Fits w64 to → Fits w64 (length a - q + n)
      agree_next_fits n l f t = fits_sum (length a - q + n) (agree_next n l f) t

pub ruleset agrees = (agreed_right, agree_right, agreed_far, agree_far, agree_far_fits, agreed_near, agree_near, agreed_next, agree_next, agree_next_fits, rules)

-- nothing is known to agree
pub agreed_none : (text : Word) (from to : ℕ) (w : Word) (q : ℕ) → Span text from to → Agreed text from to w q 0
agreed_none text from to w q s = record { span = s; passed = omega arith }

pub begins_all : (text : Word) (from to : ℕ) (w : Word) (q r : ℕ) → Span text from to → r ≡ common_prefix (part text from to) (drop q w)
    → eqb r (to - from) ≡ is_prefix (part text from to) (drop q w)
begins_all text from to w q r s e =
    let p = part_length text from to s.inside in
    let c = common_within (part text from to) (drop q w) in
    by_cases (ℕ_discrete r (to - from))
    (λ y. eq-eqb r (to - from) y ∙ sym (common_prefix_lem (part text from to) (drop q w) (omega arith)))
    (λ n. ne_eqb r (to - from) n ∙ sym (common_no_prefix (part text from to) (drop q w) (omega arith)))

pub ruleset beginnings = (agreed_none, begins_all, rules)

-- empty words
pub empty_left : (a b : Word) → 0 < length a → false ≡ is_empty (a ++ b)
empty_left [] b h = absurd (omega arith)
empty_left (x ∷ a) b h = refl

empty_length : (b : Word) → eqb (length b) 0 ≡ is_empty b
empty_length [] = refl
empty_length (x ∷ b) = ne_eqb (suc (length b)) 0 (λ e. absurd (omega arith))

pub empty_right : (a b : Word) → length a ≤ 0 → eqb (length b) 0 ≡ is_empty (a ++ b)
empty_right [] b h = empty_length b
empty_right (x ∷ a) b h = absurd (omega arith)

pub ruleset empties = (empty_left, empty_right, rules)
