-- The longest piece at a place of a relation word: it is a piece, and nothing longer there is one.
use Prim.Native.Nat.{ℕ, ◌+◌, ◌-◌, ◌≤◌, ◌<◌}
use mathlib.Core.List.{List}
use mathlib.Core.Logic.{by_cases}
use native.Mathlib.Omega.{arith}
use native.Mathlib.Decide.{dec_lt, dec_le}
use Rattle.words.specs.Words.{Word}
use Rattle.words.proofs.Searching.{greatest_bound, greatest_passes, greatest_last}
use Rattle.overlap.specs.Cuts.{len, piece_at}
use Rattle.overlap.specs.Counts.{longest_piece}
use Rattle.overlap.proofs.Places.{Piece, nothing, piece_of_test, no_piece_of_test}

module _ (B : List Word) (i a : ℕ) where
  pub longest_bound : longest_piece B i a ≤ len B i - a
  unfolding longest_piece
  longest_bound = greatest_bound (len B i - a) (piece_at B i a)

  pub longest_piece_lem : a ≤ len B i → Piece B i a (longest_piece B i a)
  unfolding longest_piece
  longest_piece_lem h =
      by_cases (dec_lt 0 (longest_piece B i a))
      (λ l. piece_of_test B i a (longest_piece B i a) (let b = longest_bound in omega arith) (greatest_passes (len B i - a) (piece_at B i a) l))
      (λ l. nothing (omega arith))

  pub longest_none : (n : ℕ) → longest_piece B i a < n → a + n ≤ len B i → ¬ Piece B i a n
  unfolding longest_piece
  longest_none n h l = no_piece_of_test B i a n l (greatest_last (len B i - a) (piece_at B i a) n h (omega arith))

  pub longest_most : (n : ℕ) → a + n ≤ len B i → Piece B i a n → n ≤ longest_piece B i a
  longest_most n l p = by_cases (dec_le n (longest_piece B i a)) (λ h. h) (λ h. absurd (longest_none n (omega arith) l p))
