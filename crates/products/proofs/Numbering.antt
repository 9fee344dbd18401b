-- The number of pieces of a word by the table of longest pieces: the loop that takes the longest piece each time, and a law for each way on.
use Prim.Native.Nat.{ℕ, ◌+◌, ◌-◌, ◌<◌, ◌≤◌}
use mathlib.Core.List.{List}
use mathlib.Core.Logic.{by_cases}
use mathlib.Core.Path.{◌≡◌, sym, ap, ◌∙◌}
use native.Mathlib.Omega.{arith}
use native.Mathlib.Decide.{dec_lt}
use mir.Syntax.{w8}
use mir.Val.{Fits}
use borrow.Author.Rules.{rules}
use lib.ListN.{length}
use Rattle.overlap.specs.Counts.{pieces, none, no_product, number, reach}
use Rattle.overlap.proofs.Reaching.{reach_first, reach_next, reach_stays, fewest_is}
use Rattle.layout.specs.Places.{word_most}
use Rattle.products.specs.Products.{piece_by, number_from, Enclosed}

-- the loop: `count` pieces end at place a, and no fewer reach the end of the word
pub record Numbering (longest : List ℕ) (start n a count : ℕ) : Type 0 where
  pub enclosed : Enclosed longest start n
  pub reached : a ≡ reach (piece_by longest start) count
  pub upto : a ≤ n
  pub few : count ≤ a
  pub fewer : (k : ℕ) → k < count → ¬ (reach (piece_by longest start) k ≡ n)

pub number_start : (longest : List ℕ) (start n : ℕ) → Enclosed longest start n → Numbering longest start n 0 0
number_start longest start n f =
    record { enclosed = f; reached = sym (reach_first (piece_by longest start)); upto = omega arith; few = omega arith; fewer = λ k h. absurd (omega (arith, h)) }

module _ (longest : List ℕ) (start n a count : ℕ) (s : Numbering longest start n a count) where
  pub number_inside : a < n → (start + a < length longest) × (a ≤ word_most)
  number_inside h = let i = s.enclosed.inside in let k = s.enclosed.short in (omega (arith, h, i), omega (arith, h, k))

  pub number_end : n ≤ a → count ≡ number_from longest start n
  unfolding number_from number
  number_end h =
      let u = s.upto in
      let r = s.reached in
      rw (fewest_is (piece_by longest start) n (pieces count) (omega (arith, r, u, h), s.fewer))

  module _ (h : a < n) (piece : ℕ) (e : piece ≡ piece_by longest start a) where
    here : piece ≡ piece_by longest start (reach (piece_by longest start) count)
    here = e ∙ ap (piece_by longest start) s.reached

    pub number_none : piece ≡ 0 → no_product ≡ number_from longest start n
    unfolding number_from number
    number_none z = rw (fewest_is (piece_by longest start) n none (λ k e. by_cases (dec_lt k count) (λ l. s.fewer k l e) (λ l.
        let r = s.reached in
        let d = ap (reach (piece_by longest start)) {x = count + (k - count)} {y = k} (omega (arith, l)) in
        let f = reach_stays (piece_by longest start) count (k - count) (sym here ∙ z) in
        absurd (omega (arith, r, d, e, f, h)))))

    pub number_fits : Fits w8 (a + piece)
    number_fits = let w = s.enclosed.within a h in let k = s.enclosed.short in omega (arith, w, k, e)

    pub count_fits : Fits w8 (count + 1)
    count_fits = let f = s.few in let k = s.enclosed.short in omega (arith, f, k, h)

    module _ (some : piece ≡ 0 → ⊥) where
      pub number_less : n - (a + piece) < n - a
      number_less = let w = s.enclosed.within a h in omega (arith, w, e, h, some)

      pub number_more : Numbering longest start n (a + piece) (count + 1)
      number_more =
          let w = s.enclosed.within a h in
          let f = s.few in
          let r = s.reached in
          let p = here in
          record {
            enclosed = s.enclosed;
            reached = omega (arith, r, p, reach_next (piece_by longest start) count);
            upto = omega (arith, w, e);
            few = omega (arith, f, some);
            fewer = λ k l e. by_cases (dec_lt k count) (λ b. s.fewer k b e) (λ b.
                let d = ap (reach (piece_by longest start)) {x = k} {y = count} (omega (arith, l, b)) in
                absurd (omega (arith, d, e, r, h)));
          }

pub ruleset numbering = (number_start, number_inside, number_end, number_none, number_fits, count_fits, number_less, number_more, rules)
