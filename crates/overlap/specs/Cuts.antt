-- What computes: the test for a piece, the search for three pieces, and the cut X, Y, Z of a relation word (document 003, section 1).
use Rattle.std.specs.Prelude.{ℕ, zero, suc, ◌+◌, ◌-◌, max, Bool, ◌&&◌, ◌||◌, not, List, eqb, leb, length, take, drop}
use Rattle.words.specs.Search.{any_below, least, greatest}
use Rattle.words.specs.Words.{Word, is_empty, is_prefix}
use Rattle.overlap.specs.Pieces.{word}

-- the length of relation word i
abbrev pub len : List Word → ℕ → ℕ
len B i = length (word B i)

-- the n letters of relation word i from p on stand in relation word j at q too
unfoldable pub twin : List Word → ℕ → ℕ → ℕ → ℕ → ℕ → Bool
twin B i p n j q = not (eqb i j && eqb p q) && is_prefix (take n (drop p (word B i))) (drop q (word B j))

-- the n letters of relation word i from p on are a piece
unfoldable pub piece_at : List Word → ℕ → ℕ → ℕ → Bool
piece_at B i p n = eqb n 0 || any_below (length B) (λ j. any_below (len B j) (twin B i p n j))

-- w is a piece: it is empty, or it stands in some relation word, and what stands there is a piece
unfoldable pub is_piece : List Word → Word → Bool
is_piece B w = is_empty w || any_below (length B) (λ i. any_below (len B i) (λ p. is_prefix w (drop p (word B i)) && piece_at B i p (length w)))

-- n letters fall into three parts, each a piece by the test `piece FROM LENGTH`; parts may be empty
unfoldable pub three : (ℕ → ℕ → Bool) → ℕ → Bool
three piece n = any_below (n + 1) (λ a. piece 0 a && any_below (n + 1) (λ b. leb a b && (piece a (b - a) && piece b (n - b))))

-- relation word i is a product of three or fewer pieces (document 01: loose)
unfoldable pub loose : List Word → ℕ → Bool
loose B i = three (piece_at B i) (len B i)

-- the lowest relation word that is a product of three or fewer pieces, or the number of relation words
unfoldable pub first_loose : List Word → ℕ
first_loose B = least (length B) (loose B)

-- the lengths of the maximal piece prefix X, of the maximal piece suffix Z and of X and Y together
unfoldable pub xlen : List Word → ℕ → ℕ
xlen B i = greatest (len B i) (piece_at B i 0)

unfoldable pub zlen : List Word → ℕ → ℕ
zlen B i = greatest (len B i) (λ n. piece_at B i (len B i - n) n)

abbrev pub xylen : List Word → ℕ → ℕ
xylen B i = len B i - zlen B i

-- the length of the middle word Y
abbrev pub ylen : List Word → ℕ → ℕ
ylen B i = len B i - xlen B i - zlen B i

-- X, X with Y, and Z of relation word i
abbrev pub x_of : List Word → ℕ → Word
x_of B i = take (xlen B i) (word B i)

abbrev pub xy_of : List Word → ℕ → Word
xy_of B i = take (xylen B i) (word B i)

abbrev pub z_of : List Word → ℕ → Word
z_of B i = drop (xylen B i) (word B i)

-- the greatest length of a Z among the first n relation words
unfoldable pub zmost : List Word → ℕ → ℕ
zmost B zero = 0
zmost B (suc n) = max (zmost B n) (zlen B n)

-- document 01's k
abbrev pub longest_suffix_piece : List Word → ℕ
longest_suffix_piece B = zmost B (length B)
