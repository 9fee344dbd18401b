-- Pieces by place: what the test `piece_at` says of n letters of relation word i from p on, and what follows of segments that are no pieces.
use Prim.Native.Nat.{ℕ, ◌+◌, ◌-◌, ◌≤◌, ◌<◌}
use mathlib.Core.Bool.{Bool, true, false, ◌&&◌, not, true≢false, and-eq-true_iff}
use mathlib.Core.List.{List}
use mathlib.Core.Path.{◌≡◌, refl, sym, ap, ◌∙◌, subst}
use mathlib.Core.Logic.{by_cases}
use native.Mathlib.Omega.{arith}
use native.Mathlib.Decide.{ℕ_discrete}
use lib.Dec.{eqb}
use borrow.Author.Tests.{eqb-true, eq-eqb, ne_eqb, not-true}
use lib.ListN.{length, get_or, take, drop, length-drop}
use lib.Seq.{length-take-le, get_or-take, get_or-drop}
use Rattle.words.specs.Search.{any_below}
use Rattle.words.specs.Words.{Word, is_prefix}
use Rattle.words.proofs.Picks.{or_right}
use Rattle.words.proofs.Searching.{any_of, any_found}
use Rattle.words.proofs.Segments.{Same, same_sym, same_sub, same_via}
use Rattle.words.proofs.Prefixes.{prefix_same, prefix_fits, same_prefix}
use Rattle.overlap.specs.Pieces.{word}
use Rattle.overlap.specs.Cuts.{len, twin, piece_at}

-- a segment that fits has its length
pub length_segment : (u : Word) (p n : ℕ) → p + n ≤ length u → length (take n (drop p u)) ≡ n
length_segment u p n h = length-take-le n (drop p u) (let d = length-drop p u in omega arith)

-- the letters of a segment are those of the word
pub segment_same : (u : Word) (p n : ℕ) → Same (take n (drop p u)) 0 u p n
segment_same u p n = record { at = λ k h. ap (λ m. get_or (take n (drop p u)) m 0) (omega arith) ∙ get_or-take n (drop p u) k 0 h ∙ get_or-drop p u k 0 }

-- the n letters of relation word i from p on stand in relation word j at q too, and that is another place
pub record Twin (B : List Word) (i p n j q : ℕ) : Type 0 where
  pub there : j < length B
  pub fits : q + n ≤ len B j
  pub elsewhere : ¬ ((i ≡ j) × (p ≡ q))
  pub same : Same (word B i) p (word B j) q n

-- the n letters of relation word i from p on are a piece
pub data Piece (B : List Word) (i p n : ℕ) : Type 0 where
  nothing : n ≡ 0 → Piece B i p n
  another : (j q : ℕ) → Twin B i p n j q → Piece B i p n

-- two different places
pub differ : (i p j q : ℕ) → (eqb i j && eqb p q) ≡ false → ¬ ((i ≡ j) × (p ≡ q))
differ i p j q e c = true≢false (sym (simp and-eq-true_iff (eq-eqb i j c.0, eq-eqb p q c.1)) ∙ e)

pub differ_test : (i p j q : ℕ) → ¬ ((i ≡ j) × (p ≡ q)) → not (eqb i j && eqb p q) ≡ true
differ_test i p j q c = go (eqb i j && eqb p q) refl
  where
    go : (t : Bool) → (eqb i j && eqb p q) ≡ t → not t ≡ true
    go true e = let r = simp and-eq-true_iff at e in absurd (c (eqb-true i j r.0, eqb-true p q r.1))
    go false e = refl

-- another place where the letters stand passes the test
pub test_of_twin : (B : List Word) (i p n j q : ℕ) → p + n ≤ len B i → Twin B i p n j q → twin B i p n j q ≡ true
unfolding twin
test_of_twin B i p n j q fit t =
    let a = take n (drop p (word B i)) in
    let l : length a ≡ n = length_segment (word B i) p n fit in
    let s : Same a 0 (word B j) q n = same_via (segment_same (word B i) p n) t.same (omega arith) in
    let f : is_prefix a (drop q (word B j)) ≡ true = same_prefix a (word B j) q (let f = t.fits in omega arith) (subst (λ m. Same a 0 (word B j) q m) (sym l) s) in
    simp (differ_test i p j q t.elsewhere, f)

-- what passes the test is another place, of one letter or more
pub twin_of_test : (B : List Word) (i p n j q : ℕ) → 0 < n → p + n ≤ len B i → j < length B → twin B i p n j q ≡ true → Twin B i p n j q
unfolding twin
twin_of_test B i p n j q pos fit there e =
    let a = take n (drop p (word B i)) in
    let l : length a ≡ n = length_segment (word B i) p n fit in
    let r = simp and-eq-true_iff at e in
    let s : Same a 0 (word B j) q n = subst (λ m. Same a 0 (word B j) q m) l (prefix_same a (word B j) q r.1) in
    let f = prefix_fits a (word B j) q (omega arith) r.1 in
    record {
      there = there;
      fits = omega arith;
      elsewhere = differ i p j q (not-true (eqb i j && eqb p q) r.0);
      same = same_via (same_sym (segment_same (word B i) p n)) s (omega arith);
    }

-- the test `piece_at` is true of pieces and of nothing else
pub piece_of_test : (B : List Word) (i p n : ℕ) → p + n ≤ len B i → piece_at B i p n ≡ true → Piece B i p n
unfolding piece_at
piece_of_test B i p n fit e =
    by_cases (ℕ_discrete n 0) (λ z. nothing z) (λ z.
    let e' : any_below (length B) (λ j. any_below (len B j) (twin B i p n j)) ≡ true = rw (ne_eqb n 0 z) at e in
    let f = any_found (length B) (λ j. any_below (len B j) (twin B i p n j)) e' in
    let g = any_found (len B f.0) (twin B i p n f.0) f.2 in
    another f.0 g.0 (twin_of_test B i p n f.0 g.0 (omega arith) fit f.1 g.2))

pub test_of_piece : (B : List Word) (i p n : ℕ) → p + n ≤ len B i → Piece B i p n → piece_at B i p n ≡ true
unfolding piece_at
test_of_piece B i p n fit (nothing z) = rw (eq-eqb n 0 z)
test_of_piece B i p n fit (another j q t) =
    by_cases (ℕ_discrete n 0) (λ z. rw (eq-eqb n 0 z)) (λ z.
    or_right (eqb n 0) (any_below (length B) (λ j. any_below (len B j) (twin B i p n j)))
    (any_of (length B) (λ j. any_below (len B j) (twin B i p n j)) j t.there
    (any_of (len B j) (twin B i p n j) q (let f = t.fits in omega arith) (test_of_twin B i p n j q fit t))))

-- where the test is false there is no piece
pub no_piece_of_test : (B : List Word) (i p n : ℕ) → p + n ≤ len B i → piece_at B i p n ≡ false → ¬ Piece B i p n
no_piece_of_test B i p n fit e c = true≢false (sym (test_of_piece B i p n fit c) ∙ e)

-- a part of a piece is a piece
pub piece_part : {B : List Word} {i p n p' n' : ℕ} → Piece B i p n → (p ≤ p') × (p' + n' ≤ p + n) → Piece B i p' n'
piece_part {B} {i} {p} {n} {p'} {n'} (nothing z) h = nothing (omega arith)
piece_part {B} {i} {p} {n} {p'} {n'} (another j q t) h =
    another j (q + (p' - p)) (record {
      there = t.there;
      fits = let f = t.fits in omega arith;
      elsewhere = λ c. t.elsewhere (c.0, omega arith);
      same = same_sub t.same (omega arith);
    })

-- a segment that is no piece stands at one place only
pub rigid : {B : List Word} {i p n j q : ℕ} → ¬ Piece B i p n → j < length B → q + n ≤ len B j → Same (word B i) p (word B j) q n → (i ≡ j) × (p ≡ q)
rigid {B} {i} {p} {n} {j} {q} np h f s =
    by_cases (ℕ_discrete i j) (λ e. by_cases (ℕ_discrete p q) (λ g. (e, g)) (λ g. absurd (np (another j q (record { there = h; fits = f; elsewhere = λ c. g c.1; same = s })))))
    (λ e. absurd (np (another j q (record { there = h; fits = f; elsewhere = λ c. e c.0; same = s }))))
