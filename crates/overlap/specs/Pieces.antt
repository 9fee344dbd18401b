-- Occurrences, pieces and the condition C(n), as document 003, section 1, and document 01, "Pieces, C(4) and cuts", state them.
-- `B` lists the relation words (document 01: sides) in the order of their numbers.
use Rattle.std.specs.Prelude.{ℕ, zero, suc, ◌<◌, List, [], ◌++◌, ◌≡◌, length, get_or}
use Rattle.words.specs.Words.{Word}

-- relation word number i
abbrev pub word : List Word → ℕ → Word
word B i = get_or B i []

-- w is a factor of relation word i, at place p
pub record Occurs (B : List Word) (w : Word) (i p : ℕ) : Type 0 where
  pub there : i < length B
  pub before : Word
  pub after : Word
  pub split : before ++ (w ++ after) ≡ word B i
  pub place : length before ≡ p

-- a piece: the empty word, or a factor of two different relation words or of one at two different places, which may overlap
pub data IsPiece (B : List Word) (w : Word) : Type 0 where
  empty : w ≡ [] → IsPiece B w
  twice : (i p j q : ℕ) → Occurs B w i p → Occurs B w j q → ¬ ((i ≡ j) × (p ≡ q)) → IsPiece B w

-- w is a product of n pieces
unfoldable pub IsProduct : List Word → ℕ → Word → Type 0
IsProduct B zero w = w ≡ []
IsProduct B (suc n) w = (a : Word) × (b : Word) × (a ++ b ≡ w) × IsPiece B a × IsProduct B n b

-- C(m): no relation word is a product of fewer than m pieces
abbrev pub SmallOverlap : ℕ → List Word → Type 0
SmallOverlap m B = (i n : ℕ) → i < length B → n < m → IsProduct B n (word B i) → ⊥

-- C(4)
abbrev pub C4 : List Word → Type 0
C4 B = SmallOverlap 4 B
