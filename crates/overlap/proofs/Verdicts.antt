-- What the verdict says (document 01, refusal 8): the lowest side whose word is a product of fewer than four pieces of the distinct words.
use Prim.Native.Nat.{ℕ, ◌≤◌, ◌<◌}
use mathlib.Core.Bool.{Bool, true}
use mathlib.Core.List.{List}
use mathlib.Core.Path.{◌≡◌, refl, sym, ap, subst}
use mathlib.Core.Logic.{by_cases, ◌↔◌}
use native.Mathlib.Omega.{arith}
use native.Mathlib.Decide.{dec_lt}
use borrow.Author.Tests.{lt-ltb, le-ltb}
use lib.ListN.{length}
use Rattle.words.specs.Words.{Word}
use Rattle.words.specs.Families.{distinct_words, word_of_side}
use Rattle.words.proofs.Searching.{least_bound, least_passes, least_first, least_is, least_none}
use Rattle.words.proofs.Distinct.{distinct_right}
use Rattle.overlap.specs.Pieces.{C4}
use Rattle.overlap.specs.Cuts as Cuts
use Rattle.overlap.specs.Cuts.{first_loose}
use Rattle.overlap.specs.Verdict.{Verdict, accepted, loose, judge, first_loose_side, FewPieces, Lowest, RightVerdict}
use Rattle.overlap.proofs.Agree.{loose_iff_few_pieces, least_iff_lowest, least_iff_none}

-- the word of side s is a product of fewer than four pieces: by the test, and in words
abbrev loose_side : List Word → ℕ → Bool
loose_side sides s = Cuts.loose (distinct_words sides) (word_of_side sides s)

abbrev FewSide : List Word → ℕ → Type 0
FewSide sides s = FewPieces 4 (distinct_words sides) (word_of_side sides s)

loose_side_iff : (sides : List Word) (s : ℕ) → s < length sides → loose_side sides s ≡ true ↔ FewSide sides s
loose_side_iff sides s h = loose_iff_few_pieces (distinct_words sides) (word_of_side sides s) ((distinct_right sides).all s h).0

-- `first_loose_side` is the lowest side whose word is such a product
first_loose_side_iff_lowest : (sides : List Word) (i : ℕ) → i < length sides → first_loose_side sides ≡ i ↔ Lowest (length sides) (FewSide sides) i
unfolding first_loose_side
first_loose_side_iff_lowest sides = least_iff_lowest (length sides) (loose_side sides) (FewSide sides) (loose_side_iff sides)

first_loose_side_bound : (sides : List Word) → first_loose_side sides ≤ length sides
unfolding first_loose_side
first_loose_side_bound sides = least_bound (length sides) (loose_side sides)

-- there is none exactly when C(4) holds of the distinct words
first_loose_side_iff_c4 : (sides : List Word) → first_loose_side sides ≡ length sides ↔ C4 (distinct_words sides)
unfolding first_loose_side
first_loose_side_iff_c4 sides =
    let d = distinct_right sides in
    let r = least_iff_none (length sides) (loose_side sides) (FewSide sides) (loose_side_iff sides) in (
      λ e i n h l c. let (s, k, f) = d.only i h in r.0 e s k (subst (FewPieces 4 (distinct_words sides)) (sym f) (n, l, c)),
      λ c. r.1 (λ s h f. c (word_of_side sides s) f.0 (d.all s h).0 f.1 f.2),
    )

-- the verdict is right
judge_right : (sides : List Word) → RightVerdict sides (judge sides)
unfolding judge
judge_right sides =
    by_cases (dec_lt (first_loose_side sides) (length sides))
    (λ h. rw (lt-ltb (first_loose_side sides) (length sides) h) ((first_loose_side_iff_lowest sides (first_loose_side sides) h).0 refl)) (λ h.
    let a : length sides ≤ first_loose_side sides = omega arith in
    let b = first_loose_side_bound sides in
    rw (le-ltb (first_loose_side sides) (length sides) a) ((first_loose_side_iff_c4 sides).0 (omega arith)))

-- no other verdict is right
right_is_judged : (sides : List Word) (v : Verdict) → RightVerdict sides v → judge sides ≡ v
unfolding judge
right_is_judged sides accepted c =
    let f = (first_loose_side_iff_c4 sides).1 c in
    rw (le-ltb (first_loose_side sides) (length sides) (omega arith))
right_is_judged sides (loose i) w =
    let l = w.below in
    let f = (first_loose_side_iff_lowest sides i l).1 w in
    rw (lt-ltb (first_loose_side sides) (length sides) (omega arith)) (ap loose f)

pub judge_iff_right : (sides : List Word) (v : Verdict) → judge sides ≡ v ↔ RightVerdict sides v
judge_iff_right sides v = (λ e. subst (RightVerdict sides) e (judge_right sides), right_is_judged sides v)

-- what is accepted is what is C(4)
pub judge_accepts_iff_c4 : (sides : List Word) → judge sides ≡ accepted ↔ C4 (distinct_words sides)
judge_accepts_iff_c4 sides = judge_iff_right sides accepted

-- By words: the lowest side whose word is such a product is the lowest side of the lowest such word, since the distinct words are in order of first appearance.

-- side s is the lowest of its word, which is the lowest that is a product of fewer than four pieces
pub first_loose_side_of_word : (sides : List Word) (s : ℕ) → s < length sides → word_of_side sides s ≡ first_loose (distinct_words sides)
    → ((k : ℕ) → k < s → ¬ (word_of_side sides k ≡ first_loose (distinct_words sides))) → first_loose_side sides ≡ s
unfolding first_loose_side first_loose
first_loose_side_of_word sides s h e f =
    let d = distinct_right sides in
    let a = (d.all s h).0 in
    least_is (length sides) (loose_side sides) s h
    (record {
      none = λ k l. by_cases (dec_lt (word_of_side sides k) (first_loose (distinct_words sides)))
          ((least_first (length (distinct_words sides)) (Cuts.loose (distinct_words sides))).none (word_of_side sides k))
          (λ n.
          let m = f k l in
          let (r, b, g) = d.ordered (first_loose (distinct_words sides)) k (omega arith) (omega arith) in absurd (f r (omega arith) g));
    })
    (subst (λ i. Cuts.loose (distinct_words sides) i ≡ true) (sym e) (least_passes (length (distinct_words sides)) (Cuts.loose (distinct_words sides)) (omega arith)))

-- no word is such a product
pub first_loose_side_of_none : (sides : List Word) → length (distinct_words sides) ≤ first_loose (distinct_words sides) → first_loose_side sides ≡ length sides
unfolding first_loose_side first_loose
first_loose_side_of_none sides h =
    let d = distinct_right sides in
    least_none (length sides) (loose_side sides)
    (record {
      none = λ s l.
          let a = (d.all s l).0 in
          (least_first (length (distinct_words sides)) (Cuts.loose (distinct_words sides))).none (word_of_side sides s) (omega arith);
    })
