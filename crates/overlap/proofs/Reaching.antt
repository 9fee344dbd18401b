-- Pieces taken one behind the other from the start of a word, for any lengths of the pieces: where they end, and how many reach the end of the word.
use Prim.Native.Nat.{ℕ, zero, suc, ◌+◌, ◌≤◌, ◌<◌}
use mathlib.Core.Bool.{Bool, true≢false}
use mathlib.Core.Logic.{by_cases}
use mathlib.Core.Path.{◌≡◌, refl, sym, ap, ◌∙◌, subst}
use native.Mathlib.Omega.{arith}
use native.Mathlib.Numerals.{add-one}
use native.Mathlib.Decide.{dec_lt, dec_le, ℕ_discrete}
use lib.Dec.{eqb}
use borrow.Author.Tests.{eqb-true, eq-eqb, le-leb, lt-leb}
use Rattle.words.specs.Search.{least}
use Rattle.words.proofs.Searching.{least_passes, least_first, least_same}
use Rattle.overlap.specs.Counts.{PieceCount, pieces, none, reach, fewest}

module _ (piece : ℕ → ℕ) where
  pub reach_first : reach piece 0 ≡ 0
  unfolding reach
  reach_first = refl

  pub reach_next : (k : ℕ) → reach piece (k + 1) ≡ reach piece k + piece (reach piece k)
  unfolding reach
  reach_next k = rw (add-one k, reach)

  -- no piece goes on from a place where there is none
  pub reach_stays : (k j : ℕ) → piece (reach piece k) ≡ 0 → reach piece (k + j) ≡ reach piece k
  reach_stays k zero e = ap (reach piece) (omega arith)
  reach_stays k (suc j) e =
      let r = reach_stays k j e in
      let n = reach_next (k + j) in
      let p = ap piece r in
      ap (reach piece) {x = k + suc j} {y = k + j + 1} (omega arith) ∙ omega arith

  -- what k pieces reach, so many pieces reach as there are letters up to there, or fewer
  pub reach_few : (k : ℕ) → (j : ℕ) × (j ≤ reach piece k) × (reach piece j ≡ reach piece k)
  reach_few zero = (zero, omega arith, refl)
  reach_few (suc k) =
      let (j, l, e) = reach_few k in
      let n = ap (reach piece) (sym (add-one k)) ∙ reach_next k in
      by_cases (ℕ_discrete (piece (reach piece k)) 0) (λ z. (j, omega arith, omega arith))
      (λ z. (j + 1, omega arith, let m = reach_next j in let p = ap piece e in omega arith))

-- k pieces reach the end of a word of n letters, and no fewer do; or no number of them does
abbrev pub Reaches : (ℕ → ℕ) → ℕ → PieceCount → Type 0
Reaches piece n (pieces k) = (reach piece k ≡ n) × ((m : ℕ) → m < k → ¬ (reach piece m ≡ n))
Reaches piece n none = (k : ℕ) → ¬ (reach piece k ≡ n)

module _ (piece : ℕ → ℕ) (n : ℕ) where
  -- the test by which the fewest are searched
  abbrev ends : ℕ → Bool
  ends k = eqb (reach piece k) n

  pub fewest_reaches : Reaches piece n (fewest piece n)
  unfolding fewest
  fewest_reaches = by_cases (dec_le (least (n + 1) ends) n) some rest
    where
      fewer : (m : ℕ) → m < least (n + 1) ends → ¬ (reach piece m ≡ n)
      fewer m l e = true≢false (sym (eq-eqb (reach piece m) n e) ∙ (least_first (n + 1) ends).none m l)

      some : least (n + 1) ends ≤ n → Reaches piece n (fewest piece n)
      some h = rw (le-leb (least (n + 1) ends) n h) (eqb-true (reach piece (least (n + 1) ends)) n (least_passes (n + 1) ends (omega arith)), fewer)

      rest : ¬ (least (n + 1) ends ≤ n) → Reaches piece n (fewest piece n)
      rest h = rw (lt-leb (least (n + 1) ends) n (omega arith)) (λ k e. let (j, l, d) = reach_few piece k in fewer j (omega arith) (d ∙ e))

  -- it is told by what it reaches
  pub reaches_only : (c d : PieceCount) → Reaches piece n c → Reaches piece n d → c ≡ d
  reaches_only (pieces k) (pieces m) (r, f) (s, g) =
      by_cases (dec_lt k m) (λ a. absurd (g k a r)) (λ a. by_cases (dec_lt m k) (λ b. absurd (f m b s)) (λ b. ap pieces (omega arith)))
  reaches_only (pieces k) none (r, f) g = absurd (g k r)
  reaches_only none (pieces m) f (s, g) = absurd (f m s)
  reaches_only none none f g = refl

  pub fewest_is : (c : PieceCount) → Reaches piece n c → fewest piece n ≡ c
  fewest_is c r = reaches_only (fewest piece n) c fewest_reaches r

  -- at most as many pieces as the word has letters
  pub fewest_short : (k : ℕ) → fewest piece n ≡ pieces k → k ≤ n
  fewest_short k e =
      let (j, l, d) = reach_few piece k in
      let (r, f) = subst (Reaches piece n) e fewest_reaches in
      by_cases (dec_le k n) (λ a. a) (λ a. absurd (f j (omega arith) (d ∙ r)))

-- pieces that stay in a word of n letters
module _ (piece : ℕ → ℕ) (n : ℕ) (within : (a : ℕ) → a ≤ n → a + piece a ≤ n) where
  pub reach_inside : (k : ℕ) → reach piece k ≤ n
  unfolding reach
  reach_inside zero = omega arith
  reach_inside (suc k) = within (reach piece k) (reach_inside k)

  -- pieces of the same lengths are as many
  pub fewest_same : (other : ℕ → ℕ) → ((a : ℕ) → a ≤ n → piece a ≡ other a) → fewest piece n ≡ fewest other n
  unfolding fewest reach
  fewest_same other same = rw (least_same (n + 1) (λ k. eqb (reach piece k) n) (λ k. eqb (reach other k) n) (λ k h. ap (λ a. eqb a n) (reach_same k)))
    where
      reach_same : (k : ℕ) → reach piece k ≡ reach other k
      reach_same zero = refl
      reach_same (suc k) =
          let r = reach_same k in
          let s = same (reach piece k) (reach_inside k) in
          let p = ap other r in
          omega arith
