-- The tests that compute agree with the definitions in words (document 003, section 1): pieces, products of fewer than four pieces, C(4).
use Prim.Native.Nat.{ℕ, zero, suc, ◌+◌, ◌-◌, ◌≤◌, ◌<◌}
use mathlib.Core.Bool.{Bool, true, false, ◌&&◌, true≢false, and-eq-true_iff}
use mathlib.Core.List.{List, [], ◌∷◌, ◌++◌, append_assoc, append-nil}
use mathlib.Core.Path.{◌≡◌, refl, sym, ap, ◌∙◌, subst}
use mathlib.Core.Logic.{◌↔◌, ◌⊎◌, inl, inr, ⊎_elim, by_cases}
use native.Mathlib.Omega.{arith}
use native.Mathlib.Decide.{dec_lt}
use lib.Dec.{leb}
use borrow.Author.Tests.{leb-true, le-leb}
use lib.ListN.{length, take, drop, length-append, take-append-drop}
use Rattle.words.specs.Search.{any_below, least}
use lib.Seq.{length-take-le, drop_at, take_all}
use Rattle.words.specs.Words.{Word, is_empty, is_prefix}
use Rattle.words.proofs.Tests.{or_found}
use Rattle.words.proofs.Prefixes.{prefix_append, prefix_split}
use Rattle.words.proofs.Searching.{any_of, any_found, least_bound, least_passes, least_first, least_is, least_none}
use Rattle.overlap.specs.Pieces.{word, Occurs, IsPiece, empty, twice, IsProduct, C4}
use Rattle.overlap.specs.Cuts.{len, piece_at, is_piece, three, loose, first_loose}
use Rattle.overlap.specs.Verdict.{FewPieces, Lowest}
use Rattle.overlap.proofs.Places.{piece_of_test, test_of_piece, piece_part, length_segment}
use Rattle.overlap.proofs.Occurrences.{occurs_segment, occurs_fits, occurs_is, piece_of_occurs, place_of_is_piece}
use Rattle.overlap.proofs.Facts.{product_of_three}

-- of a word that occurs, the test at that place says whether it is a piece
pub piece_at_iff_piece : (B : List Word) (w : Word) (i p : ℕ) → Occurs B w i p → piece_at B i p (length w) ≡ true ↔ IsPiece B w
piece_at_iff_piece B w i p o =
    (λ e. piece_of_occurs o (piece_of_test B i p (length w) (occurs_fits o) e), λ c. test_of_piece B i p (length w) (occurs_fits o) (place_of_is_piece o c))

-- the same of a segment
pub piece_at_iff_segment_piece : (B : List Word) (i p n : ℕ) → i < length B → p + n ≤ len B i → piece_at B i p n ≡ true ↔ IsPiece B (take n (drop p (word B i)))
piece_at_iff_segment_piece B i p n h f =
    subst (λ m. piece_at B i p m ≡ true ↔ IsPiece B (take n (drop p (word B i)))) (length_segment (word B i) p n f)
    (piece_at_iff_piece B (take n (drop p (word B i))) i p (occurs_segment B i p n h f))

-- a word that is a prefix of what follows place p occurs there
pub occurs_prefix : (B : List Word) (w : Word) (i p : ℕ) → i < length B → p < len B i → is_prefix w (drop p (word B i)) ≡ true → Occurs B w i p
occurs_prefix B w i p h l e =
    record {
      there = h;
      before = take p (word B i);
      after = drop (length w) (drop p (word B i));
      split = ap (take p (word B i) ++◌) (prefix_split w (drop p (word B i)) e) ∙ take-append-drop p (word B i);
      place = length-take-le p (word B i) (omega arith);
    }

-- and a word that occurs is one
prefix_occurs : {B : List Word} {w : Word} {i p : ℕ} → Occurs B w i p → is_prefix w (drop p (word B i)) ≡ true
prefix_occurs {B} {w} {i} {p} o =
    let d : drop p (word B i) ≡ w ++ o.after = ap (drop p) (sym o.split) ∙ drop_at o.before (w ++ o.after) p o.place in
    ap (is_prefix w) d ∙ prefix_append w o.after

-- the test of a word by itself: if it is not empty, it is asked wherever it stands
abbrev stands_at : List Word → Word → ℕ → ℕ → Bool
stands_at B w i p = is_prefix w (drop p (word B i)) && piece_at B i p (length w)

empty_word : (w : Word) → is_empty w ≡ true → w ≡ []
empty_word [] e = refl
empty_word (x ∷ w) e = absurd (true≢false (sym e))

pub piece_stands : (B : List Word) (w : Word) → is_piece B w ≡ true → (w ≡ []) ⊎ ((i : ℕ) × (p : ℕ) × Occurs B w i p × IsPiece B w)
unfolding is_piece
piece_stands B w e =
    ⊎_elim (λ f. inl (empty_word w f))
    (λ f.
    let (i, h, g) = any_found (length B) (λ i. any_below (len B i) (stands_at B w i)) f in
    let (p, l, k) = any_found (len B i) (stands_at B w i) g in
    let r = simp and-eq-true_iff at k in
    let o = occurs_prefix B w i p h l r.0 in
    inr (i, p, o, (piece_at_iff_piece B w i p o).0 r.1))
    (or_found (is_empty w) (any_below (length B) (λ i. any_below (len B i) (stands_at B w i))) e)

pub is_piece_of_occurs : (B : List Word) (w : Word) (i p : ℕ) → Occurs B w i p → IsPiece B w → is_piece B w ≡ true
unfolding is_piece
is_piece_of_occurs B [] i p o c = refl
is_piece_of_occurs B (x ∷ w) i p o c =
    let l = occurs_fits o in
    any_of (length B) (λ i. any_below (len B i) (stands_at B (x ∷ w) i)) i o.there
    (any_of (len B i) (stands_at B (x ∷ w) i) p (omega arith) (simp and-eq-true_iff (prefix_occurs o, (piece_at_iff_piece B (x ∷ w) i p o).1 c)))

-- it is true exactly of pieces
pub is_piece_iff_piece : (B : List Word) (w : Word) → is_piece B w ≡ true ↔ IsPiece B w
unfolding is_piece
is_piece_iff_piece B w = (λ e. ⊎_elim (λ f. empty f) (λ f. f.3) (piece_stands B w e), back)
  where
    back : IsPiece B w → is_piece B w ≡ true
    back (empty e) = rw e
    back (twice i p j q a b d) = is_piece_of_occurs B w i p a (twice i p j q a b d)

-- under C(4) a piece is shorter than a relation word that it stands in: else that word were a product of one piece
pub piece_shorter : (B : List Word) → C4 B → (w : Word) (i p : ℕ) → IsPiece B w → Occurs B w i p → length w < len B i
unfolding IsProduct
piece_shorter B c w i p s o = by_cases (dec_lt (length w) (len B i)) (λ l. l) (λ l.
    let f = occurs_fits o in
    let n : p ≡ 0 = omega arith in
    let m : length w ≡ len B i = omega arith in
    let e : take (length w) (drop p (word B i)) ≡ word B i = rw (n, m) (take_all (len B i) (word B i) (omega arith)) in
    let same : w ≡ word B i = sym (occurs_is o) ∙ e in
    absurd (c i 1 o.there (omega arith) (w, [], append-nil w ∙ same, s, refl)))

-- what the search for three parts finds
pub three_found : (piece : ℕ → ℕ → Bool) (n : ℕ) → three piece n ≡ true
    → (a : ℕ) × (b : ℕ) × (a ≤ b) × (b ≤ n) × (piece 0 a ≡ true) × (piece a (b - a) ≡ true) × (piece b (n - b) ≡ true)
unfolding three
three_found piece n e =
    let f = any_found (n + 1) (λ a. piece 0 a && any_below (n + 1) (λ b. leb a b && (piece a (b - a) && piece b (n - b)))) e in
    let a = f.0 in
    let r = simp and-eq-true_iff at f.2 in
    let g = any_found (n + 1) (λ b. leb a b && (piece a (b - a) && piece b (n - b))) r.1 in
    let b = g.0 in
    let s = simp and-eq-true_iff at g.2 in
    (a, b, leb-true a b s.0, let l = g.1 in omega arith, r.0, s.1.0, s.1.1)

pub three_of : (piece : ℕ → ℕ → Bool) (n a b : ℕ) → a ≤ b → b ≤ n → piece 0 a ≡ true → piece a (b - a) ≡ true → piece b (n - b) ≡ true → three piece n ≡ true
unfolding three
three_of piece n a b h k x y z =
    any_of (n + 1) (λ a. piece 0 a && any_below (n + 1) (λ b. leb a b && (piece a (b - a) && piece b (n - b)))) a (omega arith)
    (simp and-eq-true_iff (x, any_of (n + 1) (λ b. leb a b && (piece a (b - a) && piece b (n - b))) b (omega arith) (simp and-eq-true_iff (le-leb a b h, (y, z)))))

-- a product of n pieces is one of more, since the empty word is a piece
pub product_of_more : (B : List Word) (n d : ℕ) (w : Word) → IsProduct B n w → IsProduct B (d + n) w
unfolding IsProduct
product_of_more B n zero w h = let e : n ≡ zero + n = omega arith in subst (λ m. IsProduct B m w) e h
product_of_more B n (suc d) w h = let e : suc (d + n) ≡ suc d + n = omega arith in subst (λ m. IsProduct B m w) e ([], w, refl, empty refl, product_of_more B n d w h)

-- a relation word that is a product of three pieces passes the test
loose_of_three : (B : List Word) (i : ℕ) → i < length B → IsProduct B 3 (word B i) → loose B i ≡ true
unfolding IsProduct loose
loose_of_three B i h (a, r, e, pa, (b, s, f, pb, (c, t, g, pc, z))) =
    let oa : Occurs B a i 0 = record { there = h; before = []; after = r; split = e; place = refl } in
    let ob : Occurs B b i (length a) = record { there = h; before = a; after = s; split = cc (e, f); place = refl } in
    let oc : Occurs B c i (length a + length b) =
    record { there = h; before = a ++ b; after = t; split = cc (e, f, g, append_assoc a b (c ++ t)); place = length-append a b } in
    let la = occurs_fits oc in
    let l : len B i ≡ length a + length b + length c = let k = ap length z in
    let x = simp length-append at (ap length e) in let y = simp length-append at (ap length f) in let w = simp length-append at (ap length g) in omega arith in
    three_of (piece_at B i) (len B i) (length a) (length a + length b) (omega arith) (omega arith)
    (test_of_piece B i 0 (length a) (omega arith) (place_of_is_piece oa pa))
    (test_of_piece B i (length a) (length a + length b - length a) (omega arith) (piece_part (place_of_is_piece ob pb) (omega arith)))
    (test_of_piece B i (length a + length b) (len B i - (length a + length b)) (omega arith) (piece_part (place_of_is_piece oc pc) (omega arith)))

-- the test `loose` says whether the relation word is a product of fewer than four pieces
pub loose_iff_few_pieces : (B : List Word) (i : ℕ) → i < length B → loose B i ≡ true ↔ FewPieces 4 B i
unfolding loose
loose_iff_few_pieces B i h = (some, test)
  where
    some : loose B i ≡ true → FewPieces 4 B i
    some e =
        let (a, b, ab, bl, x, y, z) = three_found (piece_at B i) (len B i) e in (
          3,
          omega arith,
          product_of_three B i a b h ab bl
              (piece_of_test B i 0 a (omega arith) x) (piece_of_test B i a (b - a) (omega arith) y) (piece_of_test B i b (len B i - b) (omega arith) z),
        )

    test : FewPieces 4 B i → loose B i ≡ true
    test (n, l, c) = let e : 3 - n + n ≡ 3 = omega arith in loose_of_three B i h (subst (λ m. IsProduct B m (word B i)) e (product_of_more B n (3 - n) (word B i) c))

-- a bounded search gives the lowest number with the property that its test decides
pub least_iff_lowest : (n : ℕ) (test : ℕ → Bool) (P : ℕ → Type 0) → ((k : ℕ) → k < n → test k ≡ true ↔ P k) → (i : ℕ) → i < n → least n test ≡ i ↔ Lowest n P i
least_iff_lowest n test P r i h = (there, back)
  where
    there : least n test ≡ i → Lowest n P i
    there e =
        record {
          below = h;
          holds = (r i h).0 (subst (λ m. test m ≡ true) e (least_passes n test (omega arith)));
          none = λ k l c. true≢false (sym ((r k (omega arith)).1 c) ∙ (least_first n test).none k (omega arith));
        }

    back : Lowest n P i → least n test ≡ i
    back w = least_is n test i h (record { none = λ k l. go k l (test k) refl }) ((r i h).1 w.holds)
      where
        go : (k : ℕ) → k < i → (t : Bool) → test k ≡ t → t ≡ false
        go k l true e = absurd (w.none k l ((r k (omega arith)).0 e))
        go k l false e = refl

-- it gives the bound exactly when no number has the property
pub least_iff_none : (n : ℕ) (test : ℕ → Bool) (P : ℕ → Type 0) → ((k : ℕ) → k < n → test k ≡ true ↔ P k) → least n test ≡ n ↔ ((k : ℕ) → k < n → ¬ P k)
least_iff_none n test P r =
    (λ e k h c. true≢false (sym ((r k h).1 c) ∙ (least_first n test).none k (omega arith)), λ f. least_none n test (record { none = λ k h. go k h f (test k) refl }))
  where
    go : (k : ℕ) → k < n → ((k : ℕ) → k < n → ¬ P k) → (t : Bool) → test k ≡ t → t ≡ false
    go k h f true e = absurd (f k h ((r k h).0 e))
    go k h f false e = refl

-- `first_loose` is a relation word, or their number
pub first_loose_bound : (B : List Word) → first_loose B ≤ length B
unfolding first_loose
first_loose_bound B = least_bound (length B) (loose B)

-- there is none exactly when C(4) holds
pub first_loose_iff_c4 : (B : List Word) → first_loose B ≡ length B ↔ C4 B
unfolding first_loose
first_loose_iff_c4 B =
    let r = least_iff_none (length B) (loose B) (FewPieces 4 B) (loose_iff_few_pieces B) in
    (λ e i n h l c. r.0 e i h (n, l, c), λ c. r.1 (λ i h f. c i f.0 h f.1 f.2))
