-- The search for three pieces, by two cut points: what it knows at the head of each loop, and a law for each way on. Both cut points are at most
-- the length, also when their loops are left, and the length is at most 64.
use Prim.Native.Nat.{ℕ, ◌+◌, ◌-◌, ◌<◌, ◌≤◌}
use mathlib.Core.Bool.{Bool, true, false, ◌&&◌, and-false, and-eq-true_iff, true≢false}
use mathlib.Core.List.{List}
use mathlib.Core.Logic.{by_cases}
use mathlib.Core.Path.{◌≡◌, sym, ap, ◌∙◌, subst}
use native.Mathlib.Omega.{arith}
use native.Mathlib.Decide.{dec_lt, ℕ_discrete}
use borrow.Author.Rules.{rules}
use borrow.Author.Tests.{eq-eqb, ne_eqb, le-leb, lt-leb, leb-true}
use lib.Dec.{eqb, leb}
use lib.ListN.{get_or}
use Rattle.words.specs.Search.{any_below}
use Rattle.words.proofs.Tests.{false_of}
use Rattle.words.proofs.Searching.{NoneBelow, none_start, none_more, none_all, any_of}
use Rattle.overlap.specs.Cuts.{three}
use Rattle.layout.specs.Places.{word_most}
use Rattle.loose.specs.Pieces.{held, Covered, CutPoints}

-- an empty part is a piece
held_none : (longest : List ℕ) (start a : ℕ) → held longest start a 0 ≡ true
held_none longest start a = le-leb 0 (get_or longest (start + a) 0) (omega arith)

-- what is no piece is the start of none
held_longer : (longest : List ℕ) (start a m k : ℕ) → m ≤ k → held longest start a m ≡ false → held longest start a k ≡ false
held_longer longest start a m k h e = false_of (held longest start a k) (λ t.
    let l = leb-true k (get_or longest (start + a) 0) t in
    true≢false (sym (le-leb m (get_or longest (start + a) 0) (omega (arith, h, l))) ∙ e))

-- the second cut at b, where the first is at a
abbrev pub second : List ℕ → ℕ → ℕ → ℕ → ℕ → Bool
second longest start n a b = leb a b && (held longest start a (b - a) && held longest start b (n - b))

-- the first cut at a
abbrev pub first : List ℕ → ℕ → ℕ → ℕ → Bool
first longest start n a = held longest start 0 a && any_below (n + 1) (second longest start n a)

-- the rest behind the first cut is no piece where the second cut was tried at the first
rest_not : (longest : List ℕ) (start n i : ℕ) → second longest start n i i ≡ false → held longest start i (n - i) ≡ false
rest_not longest start n i e =
    let z : i - i ≡ 0 = omega arith in
    rw (le-leb i i (omega arith), z, held_none longest start i) at e

-- a word that is one piece is cut twice at its start
whole_first : (longest : List ℕ) (start n : ℕ) → held longest start 0 n ≡ true → first longest start n 0 ≡ true
whole_first longest start n e =
    let z : n - 0 ≡ n = omega arith in
    let q : second longest start n 0 0 ≡ true = rw (le-leb 0 0 (omega arith), held_none longest start 0, z) e in
    rw (held_none longest start 0, any_of (n + 1) (second longest start n 0) 0 (omega arith) q)

pub record Outer (longest : List ℕ) (start n i : ℕ) (found : Bool) : Type 0 where
  pub span : Covered longest start n
  pub short : n ≤ word_most
  pub upto : i ≤ n
  pub absent : found ≡ eqb n 0
  pub none : NoneBelow (first longest start n) i

pub record Inner (longest : List ℕ) (start n i j : ℕ) (found : Bool) : Type 0 where
  pub outer : Outer longest start n i found
  pub inside : i < n
  pub low : i ≤ j
  pub upto : j ≤ n
  pub prefix : held longest start 0 i ≡ true
  pub none : NoneBelow (second longest start n i) j

pub outer_start : (longest : List ℕ) (start n : ℕ) (found : Bool) → Covered longest start n × (n ≤ word_most) → found ≡ eqb n 0 → Outer longest start n 0 found
outer_start longest start n found s e = record { span = s.0; short = s.1; upto = omega arith; absent = e; none = none_start _ }

module _ (longest : List ℕ) (start n i : ℕ) (found : Bool) (o : Outer longest start n i found) where
  -- a word that has letters and no first cut is no product of three pieces
  none_found : NoneBelow (first longest start n) (n + 1) → 0 < n → found ≡ three (held longest start) n
  unfolding three
  none_found none h = o.absent ∙ ne_eqb n 0 (λ e. absurd (omega (arith, e, h))) ∙ sym (none_all (first longest start n) (n + 1) none)

  module _ (h : i < n) where
    pub first_asked : CutPoints longest start i 0 i × (i ≤ word_most)
    first_asked =
        let s = o.span.inside in
        let k = o.short in
        (record { inside = omega (arith, s, h); low = omega arith; high = omega arith }, omega (arith, h, k))

    module _ (r : Bool) (e : r ≡ held longest start 0 (i - 0)) where
      front : held longest start 0 i ≡ r
      front = ap (held longest start 0) {x = i} {y = i - 0} (omega arith) ∙ sym e

      pub inner_start : r ≡ true → Inner longest start n i i found
      inner_start t =
          record {
            outer = o;
            inside = h;
            low = omega arith;
            upto = omega (arith, h);
            prefix = front ∙ t;
            none = record { none = λ k l. rw (lt-leb i k l) };
          }

      -- the first part is no piece, and no longer one is
      pub first_not : r ≡ false → found ≡ three (held longest start) n
      first_not t =
          none_found (record { none = λ k l. by_cases (dec_lt k i) (λ b. o.none.none k b) (λ b. rw (held_longer longest start 0 i k (omega (arith, b)) (front ∙ t))) })
          (omega (arith, h))

module _ (longest : List ℕ) (start n i j : ℕ) (found : Bool) (v : Inner longest start n i j found) where
  -- no second cut goes with the first
  next_first : NoneBelow (second longest start n i) (n + 1) → Outer longest start n (i + 1) found
  next_first none =
      record {
        span = v.outer.span;
        short = v.outer.short;
        upto = omega (arith, v.inside);
        absent = v.outer.absent;
        none = none_more _ i v.outer.none (rw v.prefix (none_all _ (n + 1) none));
      }

  -- nor does the end of the word
  pub outer_more : n ≤ j → Outer longest start n (i + 1) found
  outer_more h =
      let u = v.upto in
      let e : j ≡ n = omega (arith, h, u) in
      let none : NoneBelow (second longest start n i) n = subst (λ (k : ℕ). NoneBelow (second longest start n i) k) e v.none in
      let rest = rest_not longest start n i (none.none i v.inside) in
      next_first (none_more _ n none (rw rest (and-false (leb i n))))

  module _ (h : j < n) where
    pub middle_asked : CutPoints longest start j i j × (j ≤ word_most)
    middle_asked =
        let s = v.outer.span.inside in
        let k = v.outer.short in
        (record { inside = omega (arith, s, h); low = v.low; high = omega arith }, omega (arith, h, k))

    module _ (m : Bool) (d : m ≡ held longest start i (j - i)) where
      -- the middle part is no piece, and no longer one is
      pub middle_not : m ≡ false → Outer longest start n (i + 1) found
      middle_not t =
          next_first (record {
            none = λ k l. by_cases (dec_lt k j)
                (λ b. v.none.none k b)
                (λ b. rw (held_longer longest start i (j - i) (k - i) (omega (arith, b)) (sym d ∙ t)) (and-false (leb i k)));
          })

    pub last_asked : CutPoints longest start n j n × (n ≤ word_most)
    last_asked = (record { inside = v.outer.span.inside; low = omega (arith, h); high = omega arith }, v.outer.short)

    module _ (r : Bool) (e : r ≡ held longest start j (n - j)) where
      pub inner_more : r ≡ false → Inner longest start n i (j + 1) found
      inner_more t =
          record {
            outer = v.outer;
            inside = v.inside;
            low = omega (arith, v.low);
            upto = omega (arith, h);
            prefix = v.prefix;
            none = none_more _ j v.none (rw (sym e ∙ t, and-false (held longest start i (j - i))) (and-false (leb i j)));
          }

      pub found_here : (m : Bool) → m ≡ held longest start i (j - i) → m ≡ true → r ≡ true → true ≡ three (held longest start) n
      unfolding three
      found_here m d y t =
          let q : second longest start n i j ≡ true = rw (le-leb i j v.low, sym d ∙ y) (sym e ∙ t) in
          let p : first longest start n i ≡ true = rw (v.prefix, any_of (n + 1) (second longest start n i) j (omega (arith, h)) q) in
          sym (any_of (n + 1) (first longest start n) i (omega (arith, v.inside)) p)

-- no first cut was found, the end of the word among them; the empty word is a product of pieces
pub not_found : (longest : List ℕ) (start n i : ℕ) (found : Bool) → Outer longest start n i found → n ≤ i → found ≡ three (held longest start) n
unfolding three
not_found longest start n i found o h = by_cases (ℕ_discrete n 0) empty longer
  where
    empty : n ≡ 0 → found ≡ any_below (n + 1) (first longest start n)
    empty z =
        let w : held longest start 0 n ≡ true = rw z (held_none longest start 0) in
        o.absent ∙ eq-eqb n 0 z ∙ sym (any_of (n + 1) (first longest start n) 0 (omega arith) (whole_first longest start n w))

    longer : (n ≡ 0 → ⊥) → found ≡ any_below (n + 1) (first longest start n)
    longer z =
        let u = o.upto in
        let e : i ≡ n = omega (arith, h, u) in
        let none : NoneBelow (first longest start n) n = subst (λ (k : ℕ). NoneBelow (first longest start n) k) e o.none in
        let last : first longest start n n ≡ false = false_of (first longest start n n) (λ t.
        let w = simp and-eq-true_iff at t in
        true≢false (sym (whole_first longest start n w.0) ∙ none.none 0 (omega (arith, z)))) in
        none_found longest start n i found o (none_more _ n none last) (omega (arith, z))

pub ruleset cutting = (outer_start, first_asked, inner_start, first_not, outer_more, middle_asked, middle_not, last_asked, inner_more, found_here, not_found, rules)
