-- What C(4) gives of the cut X, Y, Z of a relation word (document 003, section 1): X and Z are the longest pieces at its two ends,
-- Y is not empty and no piece. The record `Rigid` holds of every presentation that is C(4).
use Prim.Native.Nat.{ℕ, ◌+◌, ◌-◌, ◌≤◌, ◌<◌, max}
use mathlib.Core.Bool.{false}
use mathlib.Core.List.{List, [], ◌++◌, append-nil}
use mathlib.Core.Path.{◌≡◌, refl, sym, ap, ◌∙◌, subst}
use mathlib.Core.Logic.{by_cases}
use native.Mathlib.Omega.{arith}
use native.Mathlib.Decide.{dec_lt}
use lib.ListN.{length, take, drop, length-drop, take-append-drop}
use lib.Seq.{take_all, drop-drop, length-take-le}
use Rattle.words.specs.Search.{greatest}
use Rattle.words.specs.Words.{Word}
use Rattle.words.proofs.Searching.{greatest_bound, greatest_passes, greatest_last}
use Rattle.overlap.specs.Pieces.{word, IsPiece, IsProduct, C4}
use Rattle.overlap.specs.Cuts.{len, piece_at, xlen, zlen, xylen, x_of, xy_of, z_of}
use Rattle.overlap.specs.Counts.{longest_piece}
use Rattle.overlap.proofs.Places.{Piece, nothing, piece_of_test, no_piece_of_test, piece_part, rigid}
use Rattle.overlap.proofs.Occurrences.{is_piece_of_place}
use Rattle.overlap.proofs.Longest.{longest_bound, longest_piece_lem, longest_none}
use Rattle.overlap.proofs.Rigid.{Rigid}

-- three segments that are pieces, one behind the other, make the relation word a product of three pieces
pub product_of_three : (B : List Word) (i a b : ℕ) → i < length B → a ≤ b → b ≤ len B i → Piece B i 0 a → Piece B i a (b - a) → Piece B i b (len B i - b)
    → IsProduct B 3 (word B i)
unfolding IsProduct
product_of_three B i a b h ab bl p q r =
    let u = word B i in
    let s : a + (b - a) ≡ b = omega arith in
    let e : drop (b - a) (drop a u) ≡ drop b u = drop-drop (b - a) a u ∙ ap (λ m. drop m u) s in
    let d = length-drop b u in
    let l : take (len B i - b) (drop b u) ≡ drop b u = take_all (len B i - b) (drop b u) (omega arith) in (
      take a u,
      drop a u,
      take-append-drop a u,
      is_piece_of_place B i 0 a h (omega arith) p,
      (
        take (b - a) (drop a u),
        drop b u,
        ap (take (b - a) (drop a u) ++◌) (sym e) ∙ take-append-drop (b - a) (drop a u),
        is_piece_of_place B i a (b - a) h (omega arith) q,
        (drop b u, [], append-nil (drop b u), subst (λ w. IsPiece B w) l (is_piece_of_place B i b (len B i - b) h (omega arith) r), refl),
      ),
    )

-- X is the longest piece at the start
x_first : (B : List Word) (i : ℕ) → longest_piece B i 0 ≡ xlen B i
unfolding xlen longest_piece
x_first B i = ap (λ n. greatest n (piece_at B i 0)) (omega arith)

-- so no prefix longer than X is a piece, and X is one
pub x_longest : (B : List Word) (i n : ℕ) → xlen B i < n → n ≤ len B i → ¬ Piece B i 0 n
x_longest B i n h l = longest_none B i 0 n (let e = x_first B i in omega arith) (omega arith)

pub x_bound : (B : List Word) (i : ℕ) → xlen B i ≤ len B i
x_bound B i = let e = x_first B i in let b = longest_bound B i 0 in omega arith

pub length_x : (B : List Word) (i : ℕ) → length (x_of B i) ≡ xlen B i
length_x B i = length-take-le (xlen B i) (word B i) (x_bound B i)

pub x_piece : (B : List Word) (i : ℕ) → Piece B i 0 (xlen B i)
x_piece B i = subst (Piece B i 0) (x_first B i) (longest_piece_lem B i 0 (omega arith))

-- no end longer than Z is a piece, and Z is one
pub z_longest : (B : List Word) (i a : ℕ) → a < xylen B i → ¬ Piece B i a (len B i - a)
unfolding zlen
z_longest B i a h =
    let e : len B i - (len B i - a) ≡ a = omega arith in
    no_piece_of_test B i a (len B i - a) (omega arith)
    (subst (λ m. piece_at B i m (len B i - a) ≡ false) e (greatest_last (len B i) (λ n. piece_at B i (len B i - n) n) (len B i - a) (omega arith) (omega arith)))

pub z_bound : (B : List Word) (i : ℕ) → zlen B i ≤ len B i
unfolding zlen
z_bound B i = greatest_bound (len B i) (λ n. piece_at B i (len B i - n) n)

pub length_xy : (B : List Word) (i : ℕ) → length (xy_of B i) ≡ xylen B i
length_xy B i = length-take-le (xylen B i) (word B i) (omega arith)

pub length_z : (B : List Word) (i : ℕ) → length (z_of B i) ≡ zlen B i
length_z B i = let b = z_bound B i in length-drop (xylen B i) (word B i) ∙ omega arith

pub z_piece : (B : List Word) (i : ℕ) → Piece B i (xylen B i) (zlen B i)
unfolding zlen
z_piece B i =
    by_cases (dec_lt 0 (zlen B i)) (λ a. piece_of_test B i (xylen B i) (zlen B i) (let b = z_bound B i in omega arith) (greatest_passes (len B i) (λ n. piece_at B i (len B i - n) n) a))
    (λ a. nothing (omega arith))

-- under C(4), Y is no piece, and so not empty
pub y_no_piece : (B : List Word) → C4 B → (i : ℕ) → i < length B → ¬ Piece B i (xlen B i) (xylen B i - xlen B i)
y_no_piece B c i h y =
    let x = x_bound B i in
    let z = z_bound B i in
    c i 3 h (omega arith)
    (product_of_three B i (xlen B i) (max (xlen B i) (xylen B i)) h (omega arith) (omega arith) (x_piece B i) (piece_part y (omega arith)) (piece_part (z_piece B i) (omega arith)))

pub y_not_empty : (B : List Word) → C4 B → (i : ℕ) → i < length B → xlen B i < xylen B i
y_not_empty B c i h = by_cases (dec_lt (xlen B i) (xylen B i)) (λ a. a) (λ a. absurd (y_no_piece B c i h (nothing (omega arith))))

-- the facts on which everything about congruence rests
pub rigid_of_c4 : (B : List Word) → C4 B → Rigid B (xlen B) (xylen B)
rigid_of_c4 B c =
    record {
      some = y_not_empty B c;
      within = λ i h. omega arith;
      marker = λ i j p n h k l m f s. let r = rigid (x_longest B i n l m) k f s in (r.0, sym r.1);
      middle = λ i j p h k f s. let r = rigid (y_no_piece B c i h) k f s in (r.0, sym r.1);
      tail = λ i j a p h k l f s. let r = rigid (z_longest B i a l) k f s in (r.0, sym r.1);
    }
