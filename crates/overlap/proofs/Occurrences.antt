-- Occurrences of words and pieces among words, against segments by place (document 003, section 1); and the laws of pieces as words:
-- a factor of a piece is a piece, more relation words make no fewer pieces, and fewer of them are C(m) where all are.
use Prim.Native.Nat.{ℕ, zero, suc, ◌+◌, ◌≤◌, ◌<◌}
use mathlib.Core.List.{List, [], ◌++◌, append-nil, append_assoc}
use mathlib.Core.Path.{◌≡◌, refl, sym, ap, ◌∙◌, subst}
use mathlib.Core.Logic.{by_cases}
use native.Mathlib.Omega.{arith}
use native.Mathlib.Decide.{ℕ_discrete}
use lib.ListN.{length, take, drop, length-append, take-append-drop, get_or-append}
use lib.Seq.{length-take-le, get_or-take, get_or-drop, get_or-append-add, ext_get_or, take_at, drop_at}
use Rattle.words.specs.Words.{Word}
use Rattle.words.proofs.Lists.{no_letters}
use Rattle.words.proofs.Segments.{Same, same_sym, same_via}
use Rattle.overlap.specs.Pieces.{word, Occurs, IsPiece, empty, twice, IsProduct, SmallOverlap}
use Rattle.overlap.specs.Cuts.{len}
use Rattle.overlap.proofs.Places.{Piece, nothing, another, length_segment, segment_same}

-- segments with the same letters are equal words
pub segment_eq : (u : Word) (p : ℕ) (v : Word) (q n : ℕ) → p + n ≤ length u → q + n ≤ length v → Same u p v q n → take n (drop p u) ≡ take n (drop q v)
segment_eq u p v q n f g s =
    let l : length (take n (drop p u)) ≡ n = length_segment u p n f in
    let m : length (take n (drop q v)) ≡ n = length_segment v q n g in
    ext_get_or 0 (take n (drop p u)) (take n (drop q v)) (omega arith) (λ k h.
    let h' : k < n = omega arith in
    get_or-take n (drop p u) k 0 h' ∙ get_or-drop p u k 0 ∙ s.at k h' ∙ sym (get_or-take n (drop q v) k 0 h' ∙ get_or-drop q v k 0))

-- a segment of a relation word occurs where it was taken from
pub occurs_segment : (B : List Word) (i p n : ℕ) → i < length B → p + n ≤ len B i → Occurs B (take n (drop p (word B i))) i p
occurs_segment B i p n h f =
    record {
      there = h;
      before = take p (word B i);
      after = drop n (drop p (word B i));
      split = rw take-append-drop (take-append-drop p (word B i));
      place = length-take-le p (word B i) (omega arith);
    }

-- a segment that is a piece is a piece as a word
pub is_piece_of_place : (B : List Word) (i p n : ℕ) → i < length B → p + n ≤ len B i → Piece B i p n → IsPiece B (take n (drop p (word B i)))
is_piece_of_place B i p n h f (nothing z) = empty (ap (λ m. take m (drop p (word B i))) z)
is_piece_of_place B i p n h f (another j q t) =
    twice i p j q (occurs_segment B i p n h f)
    (subst (λ w. Occurs B w j q) (sym (segment_eq (word B i) p (word B j) q n f t.fits t.same)) (occurs_segment B j q n t.there t.fits))
    t.elsewhere

-- a word that occurs fits, and is the segment there
pub occurs_fits : {B : List Word} {w : Word} {i p : ℕ} → Occurs B w i p → p + length w ≤ len B i
occurs_fits {B} {w} {i} {p} o =
    let l = o.place in
    let s = simp length-append at (ap length o.split) in
    omega arith

pub occurs_is : {B : List Word} {w : Word} {i p : ℕ} → Occurs B w i p → take (length w) (drop p (word B i)) ≡ w
occurs_is {B} {w} {i} {p} o =
    let d : drop p (word B i) ≡ w ++ o.after = ap (drop p) (sym o.split) ∙ drop_at o.before (w ++ o.after) p o.place in
    ap (take (length w)) d ∙ take_at w o.after (length w) refl

pub occurs_same : {B : List Word} {w : Word} {i p : ℕ} → Occurs B w i p → Same w 0 (word B i) p (length w)
occurs_same {B} {w} {i} {p} o = subst (λ v. Same v 0 (word B i) p (length w)) (occurs_is o) (segment_same (word B i) p (length w))

-- a factor of a word that occurs, occurs
pub occurs_factor : (B : List Word) (a w b : Word) (i p : ℕ) → Occurs B (a ++ (w ++ b)) i p → Occurs B w i (p + length a)
occurs_factor B a w b i p o =
    record {
      there = o.there;
      before = o.before ++ a;
      after = b ++ o.after;
      split = cc (o.split, append_assoc o.before a (w ++ (b ++ o.after)), append_assoc a (w ++ b) o.after, append_assoc w b o.after);
      place = let l = o.place in length-append o.before a ∙ ap (λ m. m + length a) l;
    }

-- two places of one word are the same letters
occurs_both : {B : List Word} {w : Word} {i p j q : ℕ} → Occurs B w i p → Occurs B w j q → Same (word B i) p (word B j) q (length w)
occurs_both o o' = same_via (same_sym (occurs_same o)) (occurs_same o') (omega arith)

-- a word that occurs is a piece exactly when the segment there is
pub place_of_is_piece : {B : List Word} {w : Word} {i p : ℕ} → Occurs B w i p → IsPiece B w → Piece B i p (length w)
place_of_is_piece o (empty e) = nothing (ap length e)
place_of_is_piece {B} {w} {i} {p} o (twice j q k r a b d) =
    by_cases (ℕ_discrete i j) (λ e. by_cases (ℕ_discrete p q) (λ f. there k r b (λ c. d (sym e ∙ c.0, sym f ∙ c.1))) (λ f. there j q a (λ c. f c.1)))
    (λ e. there j q a (λ c. e c.0))
  where
    there : (j q : ℕ) → Occurs B w j q → ¬ ((i ≡ j) × (p ≡ q)) → Piece B i p (length w)
    there j q a d = another j q (record { there = a.there; fits = occurs_fits a; elsewhere = d; same = occurs_both o a })

pub piece_of_occurs : {B : List Word} {w : Word} {i p : ℕ} → Occurs B w i p → Piece B i p (length w) → IsPiece B w
piece_of_occurs {B} {w} {i} {p} o c = subst (λ v. IsPiece B v) (occurs_is o) (is_piece_of_place B i p (length w) o.there (occurs_fits o) c)

-- what occurs at two places is a piece; what is no piece occurs at one place at most
pub occurs_once : {B : List Word} {w : Word} {i p j q : ℕ} → ¬ IsPiece B w → Occurs B w i p → Occurs B w j q → (i ≡ j) × (p ≡ q)
occurs_once {B} {w} {i} {p} {j} {q} np a b =
    by_cases (ℕ_discrete i j) (λ e. by_cases (ℕ_discrete p q) (λ f. (e, f)) (λ f. absurd (np (twice i p j q a b (λ c. f c.1)))))
    (λ e. absurd (np (twice i p j q a b (λ c. e c.0))))

-- a factor of a piece is a piece
pub factor_of_piece : (B : List Word) (a w b : Word) → IsPiece B (a ++ (w ++ b)) → IsPiece B w
factor_of_piece B a w b (empty e) = empty (no_letters w (let l = simp length-append at (ap length e) in omega arith))
factor_of_piece B a w b (twice i p j q o o' d) =
    twice i (p + length a) j (q + length a) (occurs_factor B a w b i p o) (occurs_factor B a w b j q o') (λ c. d (c.0, let e = c.1 in omega arith))

-- what occurs in a factor of a relation word of C occurs in C
pub occurs_through : (B C : List Word) (w : Word) (i p j q : ℕ) → Occurs C (word B i) j q → Occurs B w i p → Occurs C w j (q + p)
occurs_through B C w i p j q o a =
    subst (λ m. Occurs C w j m) (ap (q +◌) a.place)
    (occurs_factor C a.before w a.after j q (subst (λ v. Occurs C v j q) (sym a.split) o))

-- a list in which the relation words of B are factors of different words, has the pieces of B
pub piece_through : (B C : List Word) (f g : ℕ → ℕ) → ((i : ℕ) → i < length B → Occurs C (word B i) (f i) (g i))
    → ((i j : ℕ) → i < length B → j < length B → f i ≡ f j → i ≡ j) → (w : Word) → IsPiece B w → IsPiece C w
piece_through B C f g o inj w (empty e) = empty e
piece_through B C f g o inj w (twice i p j q a b d) =
    twice (f i) (g i + p) (f j) (g j + q) (occurs_through B C w i p (f i) (g i) (o i a.there) a) (occurs_through B C w j q (f j) (g j) (o j b.there) b) (λ c.
    let e = inj i j a.there b.there c.0 in
    let k : g i ≡ g j = ap g e in
    let m = c.1 in
    d (e, omega arith))

-- a relation word occurs in itself
pub occurs_whole : (B : List Word) (i : ℕ) → i < length B → Occurs B (word B i) i 0
occurs_whole B i h = record { there = h; before = []; after = []; split = append-nil (word B i); place = refl }

-- a relation word is the same relation word among more
pub word_of_more : (A B C : List Word) (i : ℕ) → i < length B → word (A ++ (B ++ C)) (length A + i) ≡ word B i
word_of_more A B C i h = get_or-append-add A (B ++ C) i [] ∙ get_or-append B C [] i h

pub number_of_more : (A B C : List Word) (i : ℕ) → i < length B → length A + i < length (A ++ (B ++ C))
number_of_more A B C i h = let l = length-append A (B ++ C) in let m = length-append B C in omega arith

-- more relation words, in front or behind, make no fewer pieces
pub piece_of_more : (A B C : List Word) (w : Word) → IsPiece B w → IsPiece (A ++ (B ++ C)) w
piece_of_more A B C w =
    piece_through B (A ++ (B ++ C)) (λ i. length A + i) (λ i. 0)
    (λ i h. subst (λ v. Occurs (A ++ (B ++ C)) v (length A + i) 0) (word_of_more A B C i h) (occurs_whole (A ++ (B ++ C)) (length A + i) (number_of_more A B C i h)))
    (λ i j h k e. omega arith) w

-- where the pieces of B are pieces of C, the products of n of them are products of n
pub product_of_pieces : (B C : List Word) → ((w : Word) → IsPiece B w → IsPiece C w) → (n : ℕ) (w : Word) → IsProduct B n w → IsProduct C n w
unfolding IsProduct
product_of_pieces B C f zero w e = e
product_of_pieces B C f (suc n) w (a, b, e, p, r) = (a, b, e, f a p, product_of_pieces B C f n b r)

-- the pieces of any choice of the relation words of C are pieces of C
pub piece_of_choice : (B C : List Word) (f : ℕ → ℕ) → ((i : ℕ) → i < length B → (f i < length C) × (word C (f i) ≡ word B i))
    → ((i j : ℕ) → i < length B → j < length B → f i ≡ f j → i ≡ j) → (w : Word) → IsPiece B w → IsPiece C w
piece_of_choice B C f o inj =
    piece_through B C f (λ i. 0) (λ i h. subst (λ v. Occurs C v (f i) 0) (o i h).1 (occurs_whole C (f i) (o i h).0)) inj

-- so any choice of the relation words of a presentation that is C(m) is C(m)
pub small_overlap_of_choice : (m : ℕ) (B C : List Word) (f : ℕ → ℕ) → ((i : ℕ) → i < length B → (f i < length C) × (word C (f i) ≡ word B i))
    → ((i j : ℕ) → i < length B → j < length B → f i ≡ f j → i ≡ j) → SmallOverlap m C → SmallOverlap m B
small_overlap_of_choice m B C f o inj c i n h l p =
    c (f i) n (o i h).0 l (product_of_pieces B C (piece_of_choice B C f o inj) n (word C (f i)) (subst (IsProduct B n) (sym (o i h).1) p))
