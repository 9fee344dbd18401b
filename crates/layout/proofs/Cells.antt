-- Sides and families as lists of numbers read off the table one after the other: their lengths, their entries, and what keeps them.
use Prim.Native.Nat.{ℕ, zero, suc, ◌+◌, ◌≤◌, ◌<◌}
use mathlib.Core.List.{List, [], ◌∷◌, ◌++◌}
use mathlib.Core.Path.{◌≡◌, refl, ap, ◌∙◌}
use mathlib.Core.Logic.{by_cases}
use native.Mathlib.Omega.{arith}
use native.Mathlib.Decide.{ℕ_discrete}
use lib.ListN.{length, get_or, length-append, get_or-append}
use lib.Seq.{get_or_at}
use Rattle.layout.specs.Places.{side_from, side_cell, family_from, family_cell}
use Rattle.layout.specs.Families.{side_word_of, sides_in, family_at, families_in}

-- the numbers of n cells
unfoldable pub cells : List ℕ → ℕ → ℕ → List ℕ
cells table from zero = []
cells table from (suc n) = cells table from n ++ (get_or table (from + n) 0 ∷ [])

-- sides and families are such lists
pub sides_cells : (table : List ℕ) (m : ℕ) → sides_in table m ≡ cells table side_from m
unfolding sides_in cells
sides_cells table zero = refl
sides_cells table (suc m) = rw (sides_cells table m)

pub families_cells : (table : List ℕ) (n : ℕ) → families_in table n ≡ cells table family_from n
unfolding families_in cells
families_cells table zero = refl
families_cells table (suc n) = rw (families_cells table n)

-- there are n of them
pub cells_length : (table : List ℕ) (from n : ℕ) → length (cells table from n) ≡ n
unfolding cells
cells_length table from zero = refl
cells_length table from (suc n) =
    length-append (cells table from n) (get_or table (from + n) 0 ∷ []) ∙ rw (cells_length table from n) (omega arith)

-- number i of them is cell i
pub cells_at : (table : List ℕ) (from n i : ℕ) → i < n → get_or (cells table from n) i 0 ≡ get_or table (from + i) 0
unfolding cells
cells_at table from zero i h = absurd (omega arith)
cells_at table from (suc n) i h =
    let l = cells_length table from n in
    by_cases (ℕ_discrete i n)
    (λ e. rw e (get_or_at (cells table from n) (get_or table (from + n) 0) [] 0 n l))
    (λ e. get_or-append (cells table from n) (get_or table (from + n) 0 ∷ []) 0 i (omega (arith, l, e, h)) ∙ cells_at table from n i (omega (arith, e, h)))

-- the same cells give the same numbers
pub cells_same : (table table' : List ℕ) (from n : ℕ) → ((k : ℕ) → from ≤ k → k < from + n → get_or table' k 0 ≡ get_or table k 0)
    → cells table' from n ≡ cells table from n
unfolding cells
cells_same table table' from zero f = refl
cells_same table table' from (suc n) f = rw (cells_same table table' from n (λ k a b. f k a (omega arith)), f (from + n) (omega arith) (omega arith))

pub side_at : (table : List ℕ) (m s : ℕ) → s < m → get_or (sides_in table m) s 0 ≡ side_word_of table s
side_at table m s h = rw (sides_cells table m) (cells_at table side_from m s h)

pub sides_same : (table table' : List ℕ) (m : ℕ) → ((k : ℕ) → side_from ≤ k → k < side_cell m → get_or table' k 0 ≡ get_or table k 0)
    → sides_in table' m ≡ sides_in table m
sides_same table table' m f = rw (sides_cells table m, sides_cells table' m) (cells_same table table' side_from m f)

-- a side more
pub sides_more : (table table' : List ℕ) (s v : ℕ) → ((k : ℕ) → side_from ≤ k → k < side_cell s → get_or table' k 0 ≡ get_or table k 0) → side_word_of table' s ≡ v
    → sides_in table' (s + 1) ≡ sides_in table s ++ (v ∷ [])
unfolding sides_in
sides_more table table' s v f e =
    let z : s + 1 ≡ suc s = omega arith in
    let b : sides_in table' (suc s) ≡ sides_in table s ++ (v ∷ []) = rw (sides_same table table' s f, e) in
    ap (sides_in table') z ∙ b

pub families_length : (table : List ℕ) (n : ℕ) → length (families_in table n) ≡ n
families_length table n = rw (families_cells table n) (cells_length table family_from n)

pub family_at_lem : (table : List ℕ) (n i : ℕ) → i < n → get_or (families_in table n) i 0 ≡ family_at table i
family_at_lem table n i h = rw (families_cells table n) (cells_at table family_from n i h)

pub families_same : (table table' : List ℕ) (n : ℕ) → ((k : ℕ) → family_from ≤ k → k < family_cell n → get_or table' k 0 ≡ get_or table k 0)
    → families_in table' n ≡ families_in table n
families_same table table' n f = rw (families_cells table n, families_cells table' n) (cells_same table table' family_from n f)
