-- Between positions and products of words: where a factor of a written product stands, and the product that a place gives.
-- Products serve the chains (document 003, section 2), positions the overlaps.
use Prim.Native.Nat.{ℕ, ◌≤◌, ◌<◌}
use mathlib.Core.List.{List, [], ◌∷◌, ◌++◌, append_assoc}
use mathlib.Core.List.{head-eq_of_cons-eq, tail-eq_of_cons-eq}
use mathlib.Core.Path.{◌≡◌, refl, sym, ap, ◌∙◌, subst}
use native.Mathlib.Omega.{arith}
use lib.ListN.{length, get_or, take, drop, length-append, take-append-drop, get_or-append}
use lib.Seq.{get_or-append-add, length-take-le, take-length}
use Rattle.words.specs.Words.{Word}
use Rattle.words.proofs.Segments.{Same, same_sym, same_via}
use Rattle.words.proofs.Prefixes.{prefix_split}
use Rattle.overlap.specs.Pieces.{word}
use Rattle.overlap.specs.Cuts.{len, xlen, xylen, xy_of, z_of}
use Rattle.congruence.proofs.Heads.{Facts, Head, Prefix, Whole}
use Rattle.congruence.proofs.RowTests.{same_take, test_of_head}

-- of two prefixes of a word the shorter is a prefix of the longer
pub split_longer : (a b x y : Word) → a ++ x ≡ b ++ y → length b ≤ length a → (m : Word) × (a ≡ b ++ m) × (y ≡ m ++ x)
split_longer a [] x y e h = (a, refl, sym e)
split_longer [] (c ∷ b) x y e h = absurd (omega arith)
split_longer (d ∷ a) (c ∷ b) x y e h =
    let r = split_longer a b x y (tail-eq_of_cons-eq e) (omega arith) in
    (r.0, ap (◌∷ a) (head-eq_of_cons-eq e) ∙ ap (c ∷◌) r.1, r.2)

-- two prefixes of one length are equal, and so are the rests
pub split_same : (a b x y : Word) → a ++ x ≡ b ++ y → length a ≡ length b → (a ≡ b) × (x ≡ y)
split_same [] [] x y e h = (refl, e)
split_same [] (c ∷ b) x y e h = absurd (omega arith)
split_same (d ∷ a) [] x y e h = absurd (omega arith)
split_same (d ∷ a) (c ∷ b) x y e h =
    let r = split_same a b x y (tail-eq_of_cons-eq e) (omega arith) in
    (ap (◌∷ a) (head-eq_of_cons-eq e) ∙ ap (c ∷◌) r.0, r.1)

-- the letters of a product's first word, and of its second
pub same_left : (a t : Word) → Same (a ++ t) 0 a 0 (length a)
same_left a t =
    record { at = λ k h. ap (λ m. get_or (a ++ t) m 0) (omega arith) ∙ get_or-append a t 0 k h ∙ ap (λ m. get_or a m 0) (omega arith) }

pub same_right : (a t : Word) (n : ℕ) → Same (a ++ t) (length a) t 0 n
same_right a t n = record { at = λ k h. get_or-append-add a t k 0 ∙ ap (λ m. get_or t m 0) (omega arith) }

-- two products with the same first word
pub same_lefts : (a s t : Word) → Same (a ++ s) 0 (a ++ t) 0 (length a)
same_lefts a s t = same_via (same_left a s) (same_sym (same_left a t)) (omega arith)

-- X, Y and Z make the relation word
pub xy_z : (B : List Word) (i : ℕ) (t : Word) → xy_of B i ++ (z_of B i ++ t) ≡ word B i ++ t
xy_z B i t = sym (append_assoc (xy_of B i) (z_of B i) t) ∙ ap (◌++ t) (take-append-drop (xylen B i) (word B i))

-- a place cuts a word
pub cut_at : (u : Word) (p : ℕ) → p ≤ length u → (w : Word) × (s : Word) × (u ≡ w ++ s) × (length w ≡ p) × (s ≡ drop p u)
cut_at u p h = (take p u, drop p u, sym (take-append-drop p u), length-take-le p u h, refl)

module _ {B : List Word} where
  -- the first n letters of relation word i, written in a product
  pub head_in_product : (a t : Word) (i n : ℕ) → (i < length B) × (xlen B i < n) × (n ≤ len B i) → Head B (a ++ (take n (word B i) ++ t)) (length a) i n
  head_in_product a t i n c =
      let w = take n (word B i) in
      let l = length-take-le n (word B i) c.2 in
      let s : Same (w ++ t) 0 w 0 n = subst (Same (w ++ t) 0 w 0) l (same_left w t) in
      let r : Same (w ++ t) 0 (word B i) 0 n = same_via s (same_take (word B i) n) (omega arith) in
      record {
        there = c.0;
        long = c.1;
        part = c.2;
        fits = simp length-append (omega arith);
        same = same_via (same_sym r) (same_sym (same_right a (w ++ t) n)) (omega arith);
      }

  -- XY at a place, as a factor
  pub product_of_prefix : {u : Word} {p i : ℕ} → Prefix B u p i → (w : Word) × (s : Word) × (u ≡ w ++ (xy_of B i ++ s)) × (length w ≡ p)
  product_of_prefix {u} {p} {i} h =
      let c = cut_at u p (let f = h.fits in omega arith) in
      let e = prefix_split (xy_of B i) (drop p u) (test_of_head h) in
      (c.0, drop (length (xy_of B i)) (drop p u), c.2 ∙ ap (c.0 ++◌) (c.4 ∙ sym e), c.3)

  module _ (R : Facts B) where
    pub prefix_in_product : (a t : Word) (i : ℕ) → i < length B → Prefix B (a ++ (xy_of B i ++ t)) (length a) i
    prefix_in_product a t i h = let s = R.some i h in head_in_product a t i (xylen B i) (omega arith)

    pub whole_in_product : (a t : Word) (i : ℕ) → i < length B → Whole B (a ++ (word B i ++ t)) (length a) i
    whole_in_product a t i h =
        let s = R.some i h in
        subst (λ (w : Word). Head B (a ++ (w ++ t)) (length a) i (len B i)) (take_all_word i) (head_in_product a t i (len B i) (omega arith))
      where
        take_all_word : (i : ℕ) → take (len B i) (word B i) ≡ word B i
        take_all_word i = take-length (word B i)
