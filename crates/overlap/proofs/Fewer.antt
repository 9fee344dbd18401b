-- Fewer sides keep C(4): where each of some sides is one of others, each of their distinct words is a distinct word of the others, no two are the same one,
-- and so their pieces are pieces of the others.
use Prim.Native.Nat.{ℕ, ◌<◌}
use mathlib.Core.List.{List, []}
use mathlib.Core.Path.{◌≡◌, sym, ap, ◌∙◌}
use native.Mathlib.Omega.{arith}
use lib.ListN.{length, get_or}
use Rattle.words.specs.Words.{Word}
use Rattle.words.specs.Families.{place_of, distinct_words}
use Rattle.words.proofs.Distinct.{place_first, place_word, distinct_right}
use Rattle.overlap.specs.Pieces.{word, IsPiece, SmallOverlap}
use Rattle.overlap.specs.Verdict.{Verdict, judge}
use Rattle.overlap.specs.Theorems.{FewerKeepC4}
use Rattle.overlap.proofs.Occurrences.{piece_of_choice, small_overlap_of_choice}
use Rattle.overlap.proofs.Verdicts.{judge_accepts_iff_c4}

module _ (sides fewer : List Word) (among : (s : ℕ) → s < length fewer → (t : ℕ) × (t < length sides) × (get_or sides t [] ≡ get_or fewer s [])) where
  -- the number among the distinct words of `sides` of distinct word i of `fewer`
  abbrev number_among : ℕ → ℕ
  number_among i = place_of (word (distinct_words fewer) i) (distinct_words sides)

  -- it is the number of a word, the same one
  word_among : (i : ℕ) → i < length (distinct_words fewer)
      → (number_among i < length (distinct_words sides)) × (word (distinct_words sides) (number_among i) ≡ word (distinct_words fewer) i)
  word_among i h =
      let (s, l, e) = (distinct_right fewer).only i h in
      let (t, m, f) = among s l in
      let (b, g) = (distinct_right sides).all t m in
      let w = word (distinct_words fewer) i in
      let same = g ∙ f ∙ sym ((distinct_right fewer).all s l).1 ∙ ap (word (distinct_words fewer)) e in
      let first = place_first w (distinct_words sides) _ same in
      let there : number_among i < length (distinct_words sides) = omega arith in
      (there, place_word w (distinct_words sides) there)

  -- different words have different numbers
  number_among_once : (i j : ℕ) → i < length (distinct_words fewer) → j < length (distinct_words fewer) → number_among i ≡ number_among j → i ≡ j
  number_among_once i j h k e =
      (distinct_right fewer).once i j h k (sym (word_among i h).1 ∙ ap (word (distinct_words sides)) e ∙ (word_among j k).1)

  -- a piece of the distinct words of `fewer` is a piece of those of `sides`
  pub pieces_of_fewer : (w : Word) → IsPiece (distinct_words fewer) w → IsPiece (distinct_words sides) w
  pieces_of_fewer = piece_of_choice (distinct_words fewer) (distinct_words sides) number_among word_among number_among_once

  -- C(m) of the distinct words of `sides` is C(m) of those of `fewer`
  fewer_keep_overlap : (m : ℕ) → SmallOverlap m (distinct_words sides) → SmallOverlap m (distinct_words fewer)
  fewer_keep_overlap m = small_overlap_of_choice m (distinct_words fewer) (distinct_words sides) number_among word_among number_among_once

-- C(4) is kept
pub fewer_keep_c4 : FewerKeepC4
fewer_keep_c4 sides fewer among = fewer_keep_overlap sides fewer among 4

-- what is accepted is accepted with fewer sides
pub fewer_accepted : (sides fewer : List Word) → ((s : ℕ) → s < length fewer → (t : ℕ) × (t < length sides) × (get_or sides t [] ≡ get_or fewer s []))
    → judge sides ≡ Verdict.accepted → judge fewer ≡ Verdict.accepted
fewer_accepted sides fewer among e =
    (judge_accepts_iff_c4 fewer).1 (fewer_keep_c4 sides fewer among ((judge_accepts_iff_c4 sides).0 e))
