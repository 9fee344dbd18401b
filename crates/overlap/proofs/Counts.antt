-- The number of pieces (document 01, "Pieces, C(4) and cuts"): taking the longest piece each time reaches the end of a relation word after k pieces exactly when the word is a
-- product of k pieces, since every part of a piece is a piece. So the count that is computed is the smallest.
use Prim.Native.Nat.{ℕ, zero, suc, ◌+◌, ◌-◌, ◌≤◌, ◌<◌}
use mathlib.Core.Bool.{Bool, true, false, not, true≢false}
use mathlib.Core.List.{List, ◌++◌}
use mathlib.Core.Path.{◌≡◌, refl, sym, ap, ◌∙◌, subst}
use mathlib.Core.Logic.{by_cases, ◌↔◌}
use native.Mathlib.Omega.{arith}
use native.Mathlib.Numerals.{add-one}
use native.Mathlib.Decide.{dec_lt, dec_le}
use borrow.Author.Tests.{not-true, not-false}
use lib.ListN.{length, take, drop, length-drop, take-append-drop}
use lib.Seq.{drop-drop, drop-length, drop_at, length-take-le}
use Rattle.words.specs.Words.{Word}
use Rattle.words.specs.Search.{any_below}
use Rattle.words.proofs.Searching.{any_found, none_of}
use Rattle.overlap.specs.Pieces.{word, Occurs, IsPiece, IsProduct}
use Rattle.overlap.specs.Cuts.{len, piece_at}
use Rattle.overlap.specs.Counts.{PieceCount, pieces, none, no_product, number, FewestPieces, reach, longest_piece, piece_count}
use Rattle.overlap.proofs.Reaching.{reach_next, Reaches, fewest_reaches, fewest_is, fewest_short, reach_inside}
use Rattle.overlap.proofs.Places.{Piece, piece_of_test, piece_part}
use Rattle.overlap.proofs.Longest.{longest_bound, longest_piece_lem, longest_most}
use Rattle.overlap.proofs.Occurrences.{is_piece_of_place, place_of_is_piece, occurs_fits}
use Rattle.overlap.proofs.Agree.{piece_at_iff_segment_piece}

-- longest pieces stay in their relation word
pub reach_bound : (B : List Word) (i k : ℕ) → reach (longest_piece B i) k ≤ len B i
reach_bound B i = reach_inside (longest_piece B i) (len B i) (λ a h. let b = longest_bound B i a in omega arith)

-- where m longest pieces reach place a or further, and from a on comes a piece of l letters, one longest piece more reaches its end or further
longest_reaches : (B : List Word) (i m a l : ℕ) → a ≤ reach (longest_piece B i) m → a + l ≤ len B i → Piece B i a l → a + l ≤ reach (longest_piece B i) (m + 1)
longest_reaches B i m a l h f p =
    let n = reach_next (longest_piece B i) m in
    let b = reach_bound B i m in
    by_cases (dec_le (a + l) (reach (longest_piece B i) m)) (λ c. omega arith) (λ c.
    let r = longest_most B i (reach (longest_piece B i) m) (a + l - reach (longest_piece B i) m) (omega arith) (piece_part p (omega arith)) in
    omega arith)

-- a piece in front of what comes from place a on occurs there
occurs_from : (B : List Word) (i a : ℕ) (p b : Word) → i < length B → a ≤ len B i → p ++ b ≡ drop a (word B i) → Occurs B p i a
occurs_from B i a p b h l e =
    record { there = h; before = take a (word B i); after = b; split = ap (take a (word B i) ++◌) e ∙ take-append-drop a (word B i); place = length-take-le a (word B i) l }

-- where a product of k pieces comes from place a on, k longest pieces more reach the end
product_reached : (B : List Word) (i : ℕ) → i < length B → (k a m : ℕ) → a ≤ reach (longest_piece B i) m → IsProduct B k (drop a (word B i))
    → reach (longest_piece B i) (k + m) ≡ len B i
unfolding IsProduct
product_reached B i h zero a m l e =
    let d = ap length e in
    let c = length-drop a (word B i) in
    let b = reach_bound B i m in
    let z = ap (reach (longest_piece B i)) {x = zero + m} {y = m} (omega arith) in
    omega arith
product_reached B i h (suc k) a m l (p, b, e, c, r) =
    let u = reach_bound B i m in
    let o = occurs_from B i a p b h (omega arith) e in
    let q = longest_reaches B i m a (length p) l (occurs_fits o) (place_of_is_piece o c) in
    let d : b ≡ drop (a + length p) (word B i) = sym (drop_at p b (length p) refl) ∙ ap (drop (length p)) e ∙ drop-drop (length p) a (word B i) in
    ap (reach (longest_piece B i)) {x = suc k + m} {y = k + (m + 1)} (omega arith) ∙ product_reached B i h k (a + length p) (m + 1) q (subst (IsProduct B k) d r)

-- where k longest pieces more reach the end, what comes behind m of them is a product of k pieces
reached_product : (B : List Word) (i : ℕ) → i < length B → (k m : ℕ) → reach (longest_piece B i) (k + m) ≡ len B i
    → IsProduct B k (drop (reach (longest_piece B i) m) (word B i))
unfolding IsProduct
reached_product B i h zero m e =
    let z = ap (reach (longest_piece B i)) {x = zero + m} {y = m} (omega arith) in
    ap (λ a. drop a (word B i)) (sym z ∙ e) ∙ drop-length (word B i)
reached_product B i h (suc k) m e =
    let a = reach (longest_piece B i) m in
    let l = longest_piece B i a in
    let u = reach_bound B i m in
    let b = longest_bound B i a in
    let z = ap (reach (longest_piece B i)) {x = k + (m + 1)} {y = suc k + m} (omega arith) in
    let d : drop l (drop a (word B i)) ≡ drop (reach (longest_piece B i) (m + 1)) (word B i) = drop-drop l a (word B i) ∙ ap (λ j. drop j (word B i)) (sym (reach_next (longest_piece B i) m)) in (
      take l (drop a (word B i)),
      drop (reach (longest_piece B i) (m + 1)) (word B i),
      ap (take l (drop a (word B i)) ++◌) (sym d) ∙ take-append-drop l (drop a (word B i)),
      is_piece_of_place B i a l h (omega arith) (longest_piece_lem B i a u),
      reached_product B i h k (m + 1) (z ∙ e),
    )

-- a relation word is a product of k pieces exactly when k longest pieces reach its end
pub product_iff_reached : (B : List Word) (i k : ℕ) → i < length B → IsProduct B k (word B i) ↔ (reach (longest_piece B i) k ≡ len B i)
unfolding reach
product_iff_reached B i k h = (
  λ p. let z = ap (reach (longest_piece B i)) {x = k} {y = k + 0} (omega arith) in z ∙ product_reached B i h k 0 0 (omega arith) p,
  λ e. reached_product B i h k 0 (ap (reach (longest_piece B i)) {x = k + 0} {y = k} (omega arith) ∙ e),
)

-- so the smallest number of pieces is the number of longest pieces
fewest_iff_reaches : (B : List Word) (i : ℕ) (c : PieceCount) → i < length B → FewestPieces B (word B i) c ↔ Reaches (longest_piece B i) (len B i) c
fewest_iff_reaches B i (pieces n) h = (
  λ (p, f). ((product_iff_reached B i n h).0 p, λ m l e. f m l ((product_iff_reached B i m h).1 e)),
  λ (e, f). ((product_iff_reached B i n h).1 e, λ m l p. f m l ((product_iff_reached B i m h).0 p)),
)
fewest_iff_reaches B i none h = (λ f n e. f n ((product_iff_reached B i n h).1 e), λ f n p. f n ((product_iff_reached B i n h).0 p))

pub count_fewest : (B : List Word) (i : ℕ) → i < length B → FewestPieces B (word B i) (piece_count B i)
unfolding piece_count
count_fewest B i h = (fewest_iff_reaches B i (piece_count B i) h).1 (fewest_reaches (longest_piece B i) (len B i))

pub count_iff_fewest : (B : List Word) (i : ℕ) (c : PieceCount) → i < length B → (piece_count B i ≡ c) ↔ FewestPieces B (word B i) c
unfolding piece_count
count_iff_fewest B i c h = (
  λ e. subst (FewestPieces B (word B i)) e (count_fewest B i h),
  λ f.
      fewest_is (longest_piece B i) (len B i) c ((fewest_iff_reaches B i c h).0 f),
)

-- a number of pieces is at most the word's length
pub count_short : (B : List Word) (i n : ℕ) → piece_count B i ≡ pieces n → n ≤ len B i
unfolding piece_count
count_short B i n e = fewest_short (longest_piece B i) (len B i) n e

-- where every letter is a piece, k longest pieces reach k letters or more
letters_reach : (B : List Word) (i : ℕ) → ((a : ℕ) → a < len B i → Piece B i a 1) → (k : ℕ) → k ≤ len B i → k ≤ reach (longest_piece B i) k
letters_reach B i f zero h = omega arith
letters_reach B i f (suc k) h =
    let r = letters_reach B i f k (omega arith) in
    let n = ap (reach (longest_piece B i)) (sym (add-one k)) ∙ reach_next (longest_piece B i) k in
    by_cases (dec_lt (reach (longest_piece B i) k) (len B i)) (λ l.
    let m = longest_most B i (reach (longest_piece B i) k) 1 (omega arith) (f (reach (longest_piece B i) k) l) in
    omega arith) (λ l. omega arith)

-- where the letter at place a is no piece, no number of pieces gets past it
lone_stops : (B : List Word) (i a : ℕ) → a < len B i → ¬ Piece B i a 1 → (k : ℕ) → reach (longest_piece B i) k ≤ a
unfolding reach
lone_stops B i a h c zero = omega arith
lone_stops B i a h c (suc k) =
    let r = lone_stops B i a h c k in
    let b = longest_bound B i (reach (longest_piece B i) k) in
    by_cases (dec_le (reach (longest_piece B i) k + longest_piece B i (reach (longest_piece B i) k)) a) (λ l. l) (λ l.
    absurd (c (piece_part (longest_piece_lem B i (reach (longest_piece B i) k) (omega arith)) (omega arith))))

-- so a relation word is no product exactly when one of its letters is no piece
pub none_iff_lone : (B : List Word) (i : ℕ) → i < length B
    → ((n : ℕ) → ¬ IsProduct B n (word B i)) ↔ ((a : ℕ) × (a < len B i) × (¬ IsPiece B (take 1 (drop a (word B i)))))
none_iff_lone B i h = (there, back)
  where
    whole : ((a : ℕ) → a < len B i → Piece B i a 1) → IsProduct B (len B i) (word B i)
    whole f =
        let r = letters_reach B i f (len B i) (omega arith) in
        let b = reach_bound B i (len B i) in
        (product_iff_reached B i (len B i) h).1 (omega arith)

    lone : ℕ → Bool
    lone a = not (piece_at B i a 1)

    there : ((n : ℕ) → ¬ IsProduct B n (word B i)) → (a : ℕ) × (a < len B i) × (¬ IsPiece B (take 1 (drop a (word B i))))
    there f = go (any_below (len B i) lone) refl
      where
        go : (t : Bool) → any_below (len B i) lone ≡ t → (a : ℕ) × (a < len B i) × (¬ IsPiece B (take 1 (drop a (word B i))))
        go true e =
            let (a, l, q) = any_found (len B i) lone e in
            (a, l, λ c. true≢false (sym ((piece_at_iff_segment_piece B i a 1 h (omega arith)).1 c) ∙ not-true (piece_at B i a 1) q))
        go false e = absurd (f (len B i) (whole (λ a l. piece_of_test B i a 1 (omega arith) (not-false (piece_at B i a 1) (none_of (len B i) lone e a l)))))

    back : (a : ℕ) × (a < len B i) × (¬ IsPiece B (take 1 (drop a (word B i)))) → (n : ℕ) → ¬ IsProduct B n (word B i)
    back (a, l, c) n p =
        let r = lone_stops B i a l (λ q. c (is_piece_of_place B i a 1 h (omega arith) q)) n in
        let e = (product_iff_reached B i n h).0 p in
        absurd (omega arith)

-- what the number of a count says of the word that it counts
module _ (B : List Word) (w : Word) where
  -- at least m: no product of fewer pieces than m
  pub number_iff_no_fewer : (c : PieceCount) (m : ℕ) → m ≤ no_product → FewestPieces B w c → (m ≤ number c) ↔ ((n : ℕ) → n < m → ¬ IsProduct B n w)
  unfolding number
  number_iff_no_fewer (pieces k) m l (p, f) = (λ h n a. f n (omega arith), λ g. by_cases (dec_le m k) (λ a. a) (λ a. absurd (g k (omega arith) p)))
  number_iff_no_fewer none m l f = (λ h n a. f n, λ g. l)

  -- below m: a product of fewer pieces than m
  pub number_below : (c : PieceCount) (m : ℕ) → m ≤ no_product → FewestPieces B w c → number c < m → (n : ℕ) × (n < m) × IsProduct B n w
  unfolding number
  number_below (pieces k) m l (p, f) h = (k, h, p)
  number_below none m l f h = absurd (omega arith)

  -- 255: no product of pieces, where a count is smaller than that
  pub number_iff_none : (c : PieceCount) → ((n : ℕ) → c ≡ pieces n → n < no_product) → FewestPieces B w c → (number c ≡ no_product) ↔ ((n : ℕ) → ¬ IsProduct B n w)
  unfolding number
  number_iff_none (pieces k) s (p, f) = (λ e. let a = s k refl in absurd (omega arith), λ g. absurd (g k p))
  number_iff_none none s f = (λ e. f, λ g. refl)
