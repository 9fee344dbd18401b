-- What is shown of pieces, C(4) and cuts, each as one statement: the tests that compute agree with the definitions in words (document 003, section 1).
use Rattle.std.specs.Prelude.{ℕ, ◌+◌, ◌<◌, ◌≤◌, true, List, [], ◌++◌, ◌↔◌, ◌≡◌, length, get_or, take, drop}
use Rattle.words.specs.Words.{Word, is_prefix}
use Rattle.words.specs.Families.{distinct_words}
use Rattle.overlap.specs.Pieces.{word, Occurs, IsPiece, IsProduct, SmallOverlap, C4}
use Rattle.overlap.specs.Cuts.{len, piece_at, is_piece, loose, x_of, xy_of, z_of}
use Rattle.overlap.specs.Counts.{PieceCount, pieces, no_product, number, FewestPieces, piece_count, NumbersAtLeast}
use Rattle.overlap.specs.Maximal.{MaximalPiecePrefix, MaximalPieceSuffix, y_of}
use Rattle.overlap.specs.Verdict.{Verdict, judge, RightVerdict}

-- the test for a piece is true exactly of pieces
abbrev pub TestsPieces : Type 0
TestsPieces = (B : List Word) (i p n : ℕ) → i < length B → p + n ≤ len B i → (piece_at B i p n ≡ true) ↔ IsPiece B (take n (drop p (word B i)))

-- so is the test of a word by itself, wherever it stands; and under C(4) a piece is shorter than every relation word that it stands in
pub record WordsTested : Type 0 where
  pub tests : (B : List Word) (w : Word) → (is_piece B w ≡ true) ↔ IsPiece B w
  pub shorter : (B : List Word) → C4 B → (w : Word) (i p : ℕ) → IsPiece B w → Occurs B w i p → length w < len B i

-- the verdict that is computed is the right one, and no other is
abbrev pub VerdictsRight : Type 0
VerdictsRight = (sides : List Word) (v : Verdict) → (judge sides ≡ v) ↔ RightVerdict sides v

-- a presentation is accepted exactly when its distinct words meet C(4)
abbrev pub AcceptsC4 : Type 0
AcceptsC4 = (sides : List Word) → (judge sides ≡ Verdict.accepted) ↔ C4 (distinct_words sides)

-- the number of pieces that is computed is the smallest, and no other is
abbrev pub CountsFewest : Type 0
CountsFewest = (B : List Word) (i : ℕ) (c : PieceCount) → i < length B → (piece_count B i ≡ c) ↔ FewestPieces B (word B i) c

-- what the numbers say: C(m) is that all are at least m, so a presentation is accepted exactly when all are at least four; and the search for three pieces
-- finds them exactly where the number is below four
pub record NumbersDecide : Type 0 where
  pub overlap : (B : List Word) (m : ℕ) → m ≤ no_product → SmallOverlap m B ↔ NumbersAtLeast m B
  pub accepts : (sides : List Word) → (judge sides ≡ Verdict.accepted) ↔ NumbersAtLeast 4 (distinct_words sides)
  pub searched : (B : List Word) (i : ℕ) → i < length B → (loose B i ≡ true) ↔ (number (piece_count B i) < 4)

-- no word is a product of more pieces than it has letters unless fewer do as well; so 255 stands for none alone wherever words are shorter than that
pub record NumbersSmall : Type 0 where
  pub short : (B : List Word) (i n : ℕ) → i < length B → piece_count B i ≡ pieces n → n ≤ len B i
  pub alone : (B : List Word) (i : ℕ) → i < length B → len B i < no_product → (number (piece_count B i) ≡ no_product) ↔ ((n : ℕ) → ¬ IsProduct B n (word B i))

-- a relation word is no product of pieces exactly when one of its letters is no piece: it stands nowhere else
abbrev pub LoneLetters : Type 0
LoneLetters = (B : List Word) (i : ℕ) → i < length B
    → ((n : ℕ) → ¬ IsProduct B n (word B i)) ↔ ((a : ℕ) × (a < len B i) × (¬ IsPiece B (take 1 (drop a (word B i)))))

-- X is the maximal piece prefix of its relation word, and Z the maximal piece suffix
abbrev pub CutsMaximal : Type 0
CutsMaximal = (B : List Word) (i : ℕ) → i < length B → MaximalPiecePrefix B i (x_of B i) × MaximalPieceSuffix B i (z_of B i)

-- what a cut is like under C(4)
pub record GoodCut (B : List Word) (i : ℕ) : Type 0 where
  pub whole : x_of B i ++ (y_of B i ++ z_of B i) ≡ word B i
  pub some : 0 < length (y_of B i)
  pub middle : ¬ IsPiece B (y_of B i)
  pub once : (j p : ℕ) → Occurs B (xy_of B i) j p → (i ≡ j) × (p ≡ 0)
  pub prefixes : (a : Word) → is_prefix a (word B i) ≡ true → IsPiece B a → is_prefix a (x_of B i) ≡ true

-- Y is not empty and no piece, XY occurs nowhere else, and a piece that is a prefix of a relation word is a prefix of its X
abbrev pub CutsGood : Type 0
CutsGood = (B : List Word) → C4 B → (i : ℕ) → i < length B → GoodCut B i

-- a factor of a piece is a piece, and more relation words make no fewer pieces
pub record PiecesClosed : Type 0 where
  pub factors : (B : List Word) (a w b : Word) → IsPiece B (a ++ (w ++ b)) → IsPiece B w
  pub more : (A B C : List Word) (w : Word) → IsPiece B w → IsPiece (A ++ (B ++ C)) w

-- fewer sides keep C(4): where each of some sides is one of others whose distinct words meet it, their own distinct words meet it. Whether the others are joined
-- in families or fall apart plays no part
abbrev pub FewerKeepC4 : Type 0
FewerKeepC4 = (sides fewer : List Word) → ((s : ℕ) → s < length fewer → (t : ℕ) × (t < length sides) × (get_or sides t [] ≡ get_or fewer s []))
    → C4 (distinct_words sides) → C4 (distinct_words fewer)
