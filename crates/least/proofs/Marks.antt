-- Which words may be front marks: the empty word, every piece, every factor of a relation word that does not begin it, and their suffixes. What is asked of them
-- is that they lie inside X wherever they stand before what begins with XY; so a possible prefix of a word with a clean XY lies inside X of a member.
use Prim.Native.Nat.{ℕ, suc, ◌+◌, ◌<◌}
use mathlib.Core.Bool.{true}
use mathlib.Core.List.{List, [], ◌++◌}
use mathlib.Core.Path.{◌≡◌, refl, sym, ap, ◌∙◌, subst}
use mathlib.Core.Logic.{by_cases, ⊎_elim, ◌⊎◌, inl, inr}
use native.Mathlib.Omega.{arith}
use native.Mathlib.Decide.{dec_le}
use lib.ListN.{length, get_or, drop, length-drop}
use lib.Seq.{drop-drop, drop-nil, get_or-drop}
use Rattle.words.specs.Words.{Word, is_prefix}
use Rattle.words.proofs.Segments.{Same, same_sym, same_via}
use Rattle.words.proofs.Prefixes.{same_prefix}
use Rattle.overlap.specs.Pieces.{word, Occurs, IsPiece, empty, twice}
use Rattle.overlap.specs.Cuts.{xlen, x_of, xy_of, z_of}
use Rattle.overlap.proofs.Facts.{length_x}
use Rattle.overlap.proofs.Occurrences.{occurs_fits, occurs_same}
use Rattle.congruence.proofs.Heads.{Facts, Prefix, Clean}
use Rattle.congruence.proofs.RowTests.{same_take}
use Rattle.congruence.proofs.Places.{same_left, prefix_in_product}
use Rattle.congruence.proofs.Chains.{Kin, chain_sym}
use Rattle.congruence.proofs.Activity.{InnerFactor, inner_rest, inner_z}
use Rattle.congruence.proofs.Merges.{reached}
use Rattle.congruence.proofs.CleanPrefixes.{PossiblePrefix}
use Rattle.congruence.proofs.PossiblePrefixes.{x_of_ending}

-- p may be a front mark: each suffix of p, wherever it stands before what begins with some XY, lies inside that X
pub record Marking (B : List Word) (p : Word) : Type 0 where
  pub in_x : (n : ℕ) (w t : Word) (j : ℕ) → j < length B → drop n p ++ w ≡ xy_of B j ++ t → is_prefix (drop n p) (x_of B j) ≡ true

module _ {B : List Word} where
  -- what is left of a mark may be a mark
  pub marking_drop : (n : ℕ) {p : Word} → Marking B p → Marking B (drop n p)
  marking_drop n {p} m =
      record {
        in_x = λ k w t j h e.
            subst (λ (y : Word). is_prefix y (x_of B j) ≡ true) (sym (drop-drop k n p)) (m.in_x (n + k) w t j h (ap (◌++ w) (sym (drop-drop k n p)) ∙ e));
      }

module _ {B : List Word} (R : Facts B) where
  -- the empty word may be a mark
  pub marking_nothing : Marking B []
  unfolding is_prefix
  marking_nothing = record { in_x = λ n w t j h e. subst (λ (y : Word). is_prefix y (x_of B j) ≡ true) (sym (drop-nil n)) refl }

  -- a factor of a relation word that does not begin it may be a mark
  pub marking_inner : {p : Word} → InnerFactor B p → Marking B p
  marking_inner f = record { in_x = λ n w t j h e. x_of_ending R (inner_rest n f) w t j h e }

  -- Z of a relation word may be a mark
  pub marking_z : (i : ℕ) → i < length B → Marking B (z_of B i)
  marking_z i h = marking_inner (inner_z R i h)

  -- a word that stands before what begins with XY lies inside X if it is not longer; else it begins with X and a letter more
  inside_or_longer : (p w t : Word) (j : ℕ) → j < length B → p ++ w ≡ xy_of B j ++ t
      → (is_prefix p (x_of B j) ≡ true) ⊎ ((xlen B j < length p) × Same (word B j) 0 p 0 (suc (xlen B j)))
  inside_or_longer p w t j h q =
      let f : Prefix B (p ++ w) 0 j = subst (λ (y : Word). Prefix B y 0 j) (sym q) (prefix_in_product R [] t j h) in
      let g = f.long in
      by_cases (dec_le (length p) (xlen B j))
      (λ a.
      let y : Same p 0 (word B j) 0 (length p) = same_via (same_sym (same_left p w)) (same_sym f.same) (omega arith) in
      let x = length_x B j in
      inl (same_prefix p (x_of B j) 0 (omega arith) (same_via y (same_sym (same_take (word B j) (xlen B j))) (omega arith))))
      (λ a. inr (omega arith, same_via f.same (same_left p w) (omega arith)))

  -- X and a letter more stand only at the beginning of their relation word, also inside what occurs
  only_at_front : {p : Word} {i c : ℕ} (n j : ℕ) → Occurs B p i c → j < length B → xlen B j < length (drop n p) → Same (word B j) 0 (drop n p) 0 (suc (xlen B j))
      → (j ≡ i) × (c + n ≡ 0)
  only_at_front {p} {i} {c} n j o h l s =
      let d = length-drop n p in
      let f = occurs_fits o in
      let g = R.some j h in
      let k = R.within j h in
      let r : Same (drop n p) 0 p n (suc (xlen B j)) = record { at = λ k h. ap (λ m. get_or (drop n p) m 0) (omega arith) ∙ get_or-drop n p k 0 } in
      let y : Same (word B j) 0 p n (suc (xlen B j)) = same_via s r (omega arith) in
      R.marker j i (c + n) (suc (xlen B j)) h o.there (omega arith) (omega arith) (omega arith) (same_via y (occurs_same o) (omega arith))

  -- every piece may be a mark
  pub marking_piece : {p : Word} → IsPiece B p → Marking B p
  marking_piece (empty e) = subst (Marking B) (sym e) marking_nothing
  marking_piece {p} (twice i c j d a b other) =
      record {
        in_x = λ n w t k h e. ⊎_elim (λ x. x)
            (λ x.
            let f = only_at_front n k a h x.0 x.1 in
            let g = only_at_front n k b h x.0 x.1 in
            absurd (other (sym f.0 ∙ g.0, omega (arith, f.1, g.1))))
            (inside_or_longer (drop n p) w t k h e);
      }

  -- a possible prefix of a word with clean XY that may be a mark lies inside X of some member; if that is not X itself, Z is possible behind XY
  pub x_of_marking : {fam : ℕ → ℕ} {p s : Word} {i : ℕ} → Marking B p → Clean B (xy_of B i ++ s) 0 i → PossiblePrefix B fam p (xy_of B i ++ s)
      → (j : ℕ) × Kin B fam i j × (is_prefix p (x_of B j) ≡ true) × ((i ≡ j) ⊎ PossiblePrefix B fam (z_of B i) s)
  x_of_marking {fam} {p} {s} {i} m h x =
      let r = reached R h (chain_sym x.chain) in (
        r.into,
        r.kin,
        m.in_x 0 x.rest r.rest r.into r.kin.there r.product,
        ⊎_elim (λ a. inl a.0) (λ a. inr (record { rest = a.left; chain = chain_sym a.from })) r.how,
      )
