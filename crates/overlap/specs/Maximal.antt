-- The maximal piece prefix X, the maximal piece suffix Z and the middle word Y of a relation word (document 003, section 1).
-- X and Z are described here in words; `x_of` and `z_of` compute them.
use Rattle.std.specs.Prelude.{ℕ, List, ◌++◌, ◌≡◌, drop}
use Rattle.words.specs.Words.{Word}
use Rattle.overlap.specs.Pieces.{word, IsPiece}
use Rattle.overlap.specs.Cuts.{xlen, xy_of}

-- a is a prefix of u (document 01: a front)
abbrev pub IsPrefix : Word → Word → Type 0
IsPrefix a u = (t : Word) × (a ++ t ≡ u)

-- a is a suffix of u (document 01: an end)
abbrev pub IsSuffix : Word → Word → Type 0
IsSuffix a u = (t : Word) × (t ++ a ≡ u)

-- x is a piece and a part of relation word i (a part of a kind: prefix, or suffix), and every such part that is a piece is a part of x
pub record MaximalPiece (IsPart : Word → Word → Type 0) (B : List Word) (i : ℕ) (x : Word) : Type 0 where
  pub piece : IsPiece B x
  pub part : IsPart x (word B i)
  pub longest : (a : Word) → IsPart a (word B i) → IsPiece B a → IsPart a x

-- x is the maximal piece prefix of relation word i (document 01: X, its longest prefix that is a piece)
abbrev pub MaximalPiecePrefix : List Word → ℕ → Word → Type 0
MaximalPiecePrefix = MaximalPiece IsPrefix

-- z is the maximal piece suffix of relation word i (document 01: Z, its longest end that is a piece)
abbrev pub MaximalPieceSuffix : List Word → ℕ → Word → Type 0
MaximalPieceSuffix = MaximalPiece IsSuffix

-- the middle word of relation word i (document 01: Y, the rest)
abbrev pub y_of : List Word → ℕ → Word
y_of B i = drop (xlen B i) (xy_of B i)
