-- The number of pieces (document 01, "Pieces, C(4) and cuts"): the smallest number of pieces whose product a relation word is, in words and as it is computed.
use Rattle.std.specs.Prelude.{ℕ, zero, suc, ◌+◌, ◌-◌, ◌<◌, ◌≤◌, cond, List, eqb, leb, length}
use Rattle.words.specs.Search.{least, greatest}
use Rattle.words.specs.Words.{Word}
use Rattle.overlap.specs.Pieces.{IsProduct}
use Rattle.overlap.specs.Cuts.{len, piece_at}

-- so many pieces, or no product of pieces at all
pub data PieceCount : Type 0 where
  pieces : ℕ → PieceCount
  none : PieceCount

-- the number that stands for none
abbrev pub no_product : ℕ
no_product = 255

-- document 01's number for each of the two
unfoldable pub number : PieceCount → ℕ
number (pieces n) = n
number none = no_product

-- in words: w is a product of n pieces and of no fewer; or it is a product of no number of pieces
abbrev pub FewestPieces : List Word → Word → PieceCount → Type 0
FewestPieces B w (pieces n) = IsProduct B n w × ((m : ℕ) → m < n → ¬ IsProduct B m w)
FewestPieces B w none = (n : ℕ) → ¬ IsProduct B n w

-- where k pieces end that stand one behind the other from the start of a word, where the piece at place a has `piece a` letters
unfoldable pub reach : (ℕ → ℕ) → ℕ → ℕ
reach piece zero = 0
reach piece (suc k) = let a = reach piece k in a + piece a

-- the fewest of them that reach the end of a word of n letters, if any number does; more than n are never needed
unfoldable pub fewest : (ℕ → ℕ) → ℕ → PieceCount
fewest piece n = let k = least (n + 1) (λ k. eqb (reach piece k) n) in cond (leb k n) (pieces k) none

-- the length of the longest piece at place a of relation word i
unfoldable pub longest_piece : List Word → ℕ → ℕ → ℕ
longest_piece B i a = greatest (len B i - a) (piece_at B i a)

-- the pieces of relation word i where the longest is taken each time
unfoldable pub piece_count : List Word → ℕ → PieceCount
piece_count B i = fewest (longest_piece B i) (len B i)

-- the number of every relation word is at least m
abbrev pub NumbersAtLeast : ℕ → List Word → Type 0
NumbersAtLeast m B = (i : ℕ) → i < length B → m ≤ number (piece_count B i)
