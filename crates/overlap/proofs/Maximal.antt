-- `x_of` and `z_of` are the maximal piece prefix and the maximal piece suffix, and under C(4) the middle word is not empty and no piece
-- (document 003, section 1; document 01, "Pieces, C(4) and cuts").
use Prim.Native.Nat.{ℕ, ◌+◌, ◌-◌, ◌≤◌, ◌<◌}
use mathlib.Core.Bool.{true}
use mathlib.Core.List.{List, [], ◌++◌, append-nil, append_assoc}
use mathlib.Core.Path.{◌≡◌, refl, sym, ap, ◌∙◌, subst}
use mathlib.Core.Logic.{by_cases, ◌↔◌}
use native.Mathlib.Omega.{arith}
use native.Mathlib.Decide.{dec_le}
use lib.ListN.{length, take, drop, length-append, take-append-drop}
use lib.Seq.{length-slice, take-take, take_all, take-append-add, drop-append-le}
use Rattle.words.specs.Words.{Word, is_prefix}
use Rattle.words.proofs.Lists.{no_letters}
use Rattle.words.proofs.Prefixes.{prefix_append, prefix_split}
use Rattle.overlap.specs.Pieces.{word, Occurs, IsPiece, C4}
use Rattle.overlap.specs.Cuts.{xlen, zlen, xylen, x_of, xy_of, z_of}
use Rattle.overlap.specs.Maximal.{IsPrefix, IsSuffix, MaximalPiece, MaximalPiecePrefix, MaximalPieceSuffix, y_of}
use Rattle.overlap.proofs.Places.{piece_part}
use Rattle.overlap.proofs.Occurrences.{occurs_segment, occurs_once, is_piece_of_place, place_of_is_piece}
use Rattle.overlap.proofs.Facts.{x_bound, x_piece, x_longest, length_x, z_bound, z_piece, z_longest, length_xy, length_z, y_not_empty, y_no_piece}

-- the test `is_prefix` says whether the word is a prefix
pub is_prefix_iff_prefix : (a u : Word) → is_prefix a u ≡ true ↔ IsPrefix a u
is_prefix_iff_prefix a u = (λ e. (drop (length a) u, prefix_split a u e), λ p. subst (λ v. is_prefix a v ≡ true) p.1 (prefix_append a p.0))

-- prefixes occur at 0, suffixes at the end
pub prefix_occurs : (B : List Word) (i : ℕ) (a : Word) → i < length B → IsPrefix a (word B i) → Occurs B a i 0
prefix_occurs B i a h p = record { there = h; before = []; after = p.0; split = p.1; place = refl }

pub suffix_occurs : (B : List Word) (i : ℕ) (a : Word) → i < length B → (s : IsSuffix a (word B i)) → Occurs B a i (length s.0)
suffix_occurs B i a h s = record { there = h; before = s.0; after = []; split = ap (s.0 ++◌) (append-nil a) ∙ s.1; place = refl }

-- a short prefix is a prefix of a longer one, a short suffix a suffix of a longer one
pub prefix_of_take : (a u : Word) (n : ℕ) → length a ≤ n → IsPrefix a u → IsPrefix a (take n u)
prefix_of_take a u n h (t, e) =
    let m : length a + (n - length a) ≡ n = omega arith in
    (take (n - length a) t, sym (take-append-add a t (n - length a)) ∙ ap (λ k. take k (a ++ t)) m ∙ ap (take n) e)

pub suffix_of_drop : (a u : Word) (p : ℕ) → (s : IsSuffix a u) → p ≤ length s.0 → IsSuffix a (drop p u)
suffix_of_drop a u p s h = (drop p s.0, sym (drop-append-le p s.0 a h) ∙ ap (drop p) s.1)

-- X is the maximal piece prefix
pub x_maximal : (B : List Word) (i : ℕ) → i < length B → MaximalPiecePrefix B i (x_of B i)
x_maximal B i h =
    record {
      piece = is_piece_of_place B i 0 (xlen B i) h (let b = x_bound B i in omega arith) (x_piece B i);
      part = (drop (xlen B i) (word B i), take-append-drop (xlen B i) (word B i));
      longest = λ a p c. prefix_of_take a (word B i) (xlen B i) (short a p c) p;
    }
  where
    short : (a : Word) → IsPrefix a (word B i) → IsPiece B a → length a ≤ xlen B i
    short a p c =
        let l = simp length-append at (ap length p.1) in
        by_cases (dec_le (length a) (xlen B i)) (λ k. k) (λ k. absurd (x_longest B i (length a) (omega arith) (omega arith) (place_of_is_piece (prefix_occurs B i a h p) c)))

-- Z is the maximal piece suffix
pub z_maximal : (B : List Word) (i : ℕ) → i < length B → MaximalPieceSuffix B i (z_of B i)
z_maximal B i h =
    let b = z_bound B i in
    let d = length_z B i in
    record {
      piece = subst (λ w. IsPiece B w) (take_all (zlen B i) (drop (xylen B i) (word B i)) (omega arith)) (is_piece_of_place B i (xylen B i) (zlen B i) h (omega arith) (z_piece B i));
      part = (take (xylen B i) (word B i), take-append-drop (xylen B i) (word B i));
      longest = λ a s c. suffix_of_drop a (word B i) (xylen B i) s (short a s c);
    }
  where
    short : (a : Word) (s : IsSuffix a (word B i)) → IsPiece B a → xylen B i ≤ length s.0
    short a s c =
        let l = simp length-append at (ap length s.1) in
        by_cases (dec_le (xylen B i) (length s.0)) (λ k. k) (λ k.
        absurd (z_longest B i (length s.0) (omega arith) (piece_part (place_of_is_piece (suffix_occurs B i a h s) c) (omega arith))))

-- The next three laws are for the reader, nothing rests on them: a relation word has only one maximal piece prefix and only one maximal piece suffix,
-- so X and Z of documents 003 and 01 can be no other words than `x_of` and `z_of`. Words that are prefixes, or suffixes, of one another are equal,
pub prefix_antisym : (a b : Word) → IsPrefix a b → IsPrefix b a → a ≡ b
prefix_antisym a b (t, e) (s, f) =
    let l = simp length-append at (ap length e) in
    let m = simp length-append at (ap length f) in
    sym (append-nil a) ∙ ap (a ++◌) (sym (no_letters t (omega arith))) ∙ e

pub suffix_antisym : (a b : Word) → IsSuffix a b → IsSuffix b a → a ≡ b
suffix_antisym a b (t, e) (s, f) =
    let l = simp length-append at (ap length e) in
    let m = simp length-append at (ap length f) in
    ap (◌++ a) (sym (no_letters t (omega arith))) ∙ e

-- so two maximal pieces of one kind are equal
pub maximal_unique : (IsPart : Word → Word → Type 0) → ((a b : Word) → IsPart a b → IsPart b a → a ≡ b)
    → (B : List Word) (i : ℕ) (x y : Word) → MaximalPiece IsPart B i x → MaximalPiece IsPart B i y → x ≡ y
maximal_unique IsPart anti B i x y m n = anti x y (n.longest x m.part m.piece) (m.longest y n.part n.piece)

-- a piece that is a prefix of a relation word is a prefix of its X, by the test `is_prefix`
pub piece_prefix_in_x : (B : List Word) (i : ℕ) (a : Word) → i < length B → is_prefix a (word B i) ≡ true → IsPiece B a → is_prefix a (x_of B i) ≡ true
piece_prefix_in_x B i a h e c = (is_prefix_iff_prefix a (x_of B i)).1 ((x_maximal B i h).longest a ((is_prefix_iff_prefix a (word B i)).0 e) c)

-- under C(4) a relation word is X Y Z
pub cut_whole : (B : List Word) → C4 B → (i : ℕ) → i < length B → x_of B i ++ (y_of B i ++ z_of B i) ≡ word B i
cut_whole B c i h =
    let l = y_not_empty B c i h in
    let u = word B i in
    let v = xy_of B i in
    cc (take-take (xlen B i) (xylen B i) u (omega arith), take-append-drop (xlen B i) v, take-append-drop (xylen B i) u, append_assoc (take (xlen B i) v) (y_of B i) (z_of B i))

pub length_y : (B : List Word) (i : ℕ) → length (y_of B i) ≡ xylen B i - xlen B i
length_y B i = length-slice (xlen B i) (xylen B i) (word B i) (omega arith)

-- under C(4), Y is not empty and no piece
pub y_has_letters : (B : List Word) → C4 B → (i : ℕ) → i < length B → 0 < length (y_of B i)
y_has_letters B c i h = let l = y_not_empty B c i h in let m = length_y B i in omega arith

pub y_is_no_piece : (B : List Word) → C4 B → (i : ℕ) → i < length B → ¬ IsPiece B (y_of B i)
y_is_no_piece B c i h p =
    let l = y_not_empty B c i h in
    let m = length_y B i in
    let o : Occurs B (y_of B i) i (xlen B i) =
    record { there = h; before = x_of B i; after = z_of B i; split = cut_whole B c i h; place = length_x B i } in
    y_no_piece B c i h (piece_part (place_of_is_piece o p) (omega arith))

-- under C(4), X and Y together are no piece: they occur at the prefix of their relation word and nowhere else
pub xy_is_no_piece : (B : List Word) → C4 B → (i : ℕ) → i < length B → ¬ IsPiece B (xy_of B i)
xy_is_no_piece B c i h p =
    let l = y_not_empty B c i h in
    let m = length_xy B i in
    x_longest B i (xylen B i) l (omega arith) (piece_part (place_of_is_piece (occurs_segment B i 0 (xylen B i) h (omega arith)) p) (omega arith))

pub xy_occurs_once : (B : List Word) → C4 B → (i j p : ℕ) → i < length B → Occurs B (xy_of B i) j p → (i ≡ j) × (p ≡ 0)
xy_occurs_once B c i j p h o =
    let r = occurs_once (xy_is_no_piece B c i h) (occurs_segment B i 0 (xylen B i) h (omega arith)) o in
    (r.0, sym r.1)
