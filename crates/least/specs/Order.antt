-- Dictionary order (document 000: lexicographic order), by a rank for each letter: a proper prefix comes first, else the first difference decides.
use Rattle.std.specs.Prelude.{ℕ, ◌+◌, ◌-◌, ◌<◌, Bool, true, false, cond, [], ◌∷◌, ◌++◌, ◌⊎◌, ◌≡◌, eqb, ltb}
use Rattle.words.specs.Words.{Word}
use Rattle.congruence.specs.Rows.{choose}

-- different letters have different ranks
abbrev pub Injective : (ℕ → ℕ) → Type 0
Injective rank = (x y : ℕ) → rank x ≡ rank y → x ≡ y

-- u comes before v
pub data Before (rank : ℕ → ℕ) (u v : Word) : Type 0 where
  -- u is a proper prefix of v (document 01: a proper front)
  shorter : (x : ℕ) (t : Word) → v ≡ u ++ (x ∷ t) → Before rank u v
  -- at the first place where they differ, u has the letter of lower rank
  lower : (a : Word) (x y : ℕ) (s t : Word) → u ≡ a ++ (x ∷ s) → v ≡ a ++ (y ∷ t) → rank x < rank y → Before rank u v

-- u is v or comes before it
abbrev pub AtMost : (ℕ → ℕ) → Word → Word → Type 0
AtMost rank u v = (u ≡ v) ⊎ Before rank u v

-- what computes: whether u comes before v
unfoldable pub before : (ℕ → ℕ) → Word → Word → Bool
before rank [] [] = false
before rank [] (y ∷ v) = true
before rank (x ∷ u) [] = false
before rank (x ∷ u) (y ∷ v) = choose (eqb x y) (λ _. before rank u v) (λ _. ltb (rank x) (rank y))

-- the house table of document 01 has so many ranks, one for each letter below that number
abbrev pub house_ranks : ℕ
house_ranks = 64

-- the letters of the cleaning steps, which come first, are those from this one on
abbrev pub house_cleaning : ℕ
house_cleaning = 32

-- the rank of a letter: 32 to 63 have the ranks 0 to 31, and 0 to 31 the ranks 32 to 63; no other letter is below the limit, and each further one has its own number
unfoldable pub house_rank : ℕ → ℕ
house_rank c = cond (ltb c house_cleaning) (c + (house_ranks - house_cleaning)) (cond (ltb c house_ranks) (c - house_cleaning) c)
