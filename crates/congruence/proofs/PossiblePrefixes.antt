-- Possible prefixes of a word (document 003: possible prefixes): what Lemma 4 says of them beyond Lemma 3, and Proposition 3 for one letter, for families of any size.
use Prim.Native.Nat.{ℕ, suc, ◌<◌}
use mathlib.Core.Bool.{true}
use mathlib.Core.List.{List, [], ◌∷◌, ◌++◌, append_assoc, head-eq_of_cons-eq, tail-eq_of_cons-eq}
use mathlib.Core.Path.{◌≡◌, refl, sym, ap, ◌∙◌, subst}
use mathlib.Core.Logic.{by_cases, ⊎_elim, ◌⊎◌, inl, inr, ◌↔◌}
use native.Mathlib.Omega.{arith}
use native.Mathlib.Decide.{dec_le}
use lib.ListN.{length, drop, take-append-drop}
use lib.Seq.{take-take}
use Rattle.words.specs.Words.{Word, is_prefix}
use Rattle.words.proofs.Segments.{Same, same_sym, same_via}
use Rattle.words.proofs.Prefixes.{prefix_split, same_prefix}
use Rattle.overlap.specs.Pieces.{word}
use Rattle.overlap.specs.Cuts.{xlen, xylen, x_of, xy_of, z_of}
use Rattle.overlap.proofs.Facts.{length_x}
use Rattle.congruence.proofs.Heads.{Facts, Prefix, Clean}
use Rattle.congruence.proofs.RowTests.{same_take}
use Rattle.congruence.proofs.Places.{same_left, xy_z, prefix_in_product}
use Rattle.congruence.proofs.Chains.{Kin, Chain, chain_join, chain_sym, chain_behind, chain_from, chain_to, chain_turn}
use Rattle.congruence.proofs.Chains.Chain.{stop}
use Rattle.congruence.proofs.Strips.{strip, chain_still}
use Rattle.congruence.proofs.Activity.{InnerFactor}
use Rattle.congruence.proofs.Activity.InnerFactor.{nothing, inside}
use Rattle.congruence.proofs.Merges.{reached}
use Rattle.congruence.proofs.CleanPrefixes.{PossiblePrefix}

module _ {B : List Word} {fam : ℕ → ℕ} where
  -- the empty word is a possible prefix of every word
  pub possible_nothing : (u : Word) → PossiblePrefix B fam [] u
  possible_nothing u = record { rest = u; chain = stop }

  -- congruent words have the same possible prefixes
  pub possible_along : {p u v : Word} → PossiblePrefix B fam p u → Chain B fam u v → PossiblePrefix B fam p v
  possible_along x c = record { rest = x.rest; chain = chain_join x.chain c }

  -- a prefix of X is one wherever XY is in front
  pub possible_of_x : (p t : Word) (j : ℕ) → xlen B j < xylen B j → is_prefix p (x_of B j) ≡ true → PossiblePrefix B fam p (xy_of B j ++ t)
  possible_of_x p t j h e = record { rest = (drop (length p) (x_of B j) ++ drop (xlen B j) (xy_of B j)) ++ t; chain = chain_from split stop }
    where
      split : p ++ ((drop (length p) (x_of B j) ++ drop (xlen B j) (xy_of B j)) ++ t) ≡ xy_of B j ++ t
      split =
          sym (append_assoc p (drop (length p) (x_of B j) ++ drop (xlen B j) (xy_of B j)) t)
          ∙ ap (◌++ t) (sym (append_assoc p (drop (length p) (x_of B j)) (drop (xlen B j) (xy_of B j)))
          ∙ ap (◌++ drop (xlen B j) (xy_of B j)) (prefix_split p (x_of B j) e ∙ sym (take-take (xlen B j) (xylen B j) (word B j) (omega arith)))
          ∙ take-append-drop (xlen B j) (xy_of B j))

module _ {B : List Word} (R : Facts B) where
  -- an end in front of a word that begins with XY lies inside X
  pub x_of_ending : {p : Word} → InnerFactor B p → (w t : Word) (j : ℕ) → j < length B → p ++ w ≡ xy_of B j ++ t → is_prefix p (x_of B j) ≡ true
  unfolding is_prefix
  x_of_ending {p} (nothing e) w t j h q = subst (λ (y : Word). is_prefix y (x_of B j) ≡ true) (sym e) refl
  x_of_ending {p} (inside n c l o m s) w t j h q =
      let f : Prefix B (p ++ w) 0 j = subst (λ (y : Word). Prefix B y 0 j) (sym q) (prefix_in_product R [] t j h) in
      by_cases (dec_le (length p) (xlen B j))
      (λ a.
      let g = f.long in
      let y : Same p 0 (word B j) 0 (length p) = same_via (same_sym (same_left p w)) (same_sym f.same) (omega arith) in
      let x = length_x B j in
      same_prefix p (x_of B j) 0 (omega arith) (same_via y (same_sym (same_take (word B j) (xlen B j))) (omega arith)))
      (λ a.
      let g = f.long in
      let y : Same (word B j) 0 p 0 (suc (xlen B j)) = same_via f.same (same_left p w) (omega arith) in
      let r = R.marker j n c (suc (xlen B j)) h l (omega arith) (omega arith) (omega arith) (same_via y s (omega arith)) in
      absurd (omega (arith, r.1)))

  module _ {fam : ℕ → ℕ} where
    -- a possible prefix of a word with clean XY lies inside X of some member; if that is not X itself, Z is possible behind XY
    pub x_of_possible : {p s : Word} {i : ℕ} → InnerFactor B p → Clean B (xy_of B i ++ s) 0 i → PossiblePrefix B fam p (xy_of B i ++ s)
        → (j : ℕ) × Kin B fam i j × (is_prefix p (x_of B j) ≡ true) × ((i ≡ j) ⊎ PossiblePrefix B fam (z_of B i) s)
    x_of_possible {p} {s} {i} n h x =
        let r = reached R h (chain_sym x.chain) in (
          r.into,
          r.kin,
          x_of_ending n x.rest r.rest r.into r.kin.there r.product,
          ⊎_elim (λ a. inl a.0) (λ a. inr (record { rest = a.left; chain = chain_sym a.from })) r.how,
        )

    -- where Z is possible behind XY, every front of a member's X is possible
    pub possible_of_turn : {s : Word} {i j : ℕ} (p : Word) → Kin B fam i j → is_prefix p (x_of B j) ≡ true → PossiblePrefix B fam (z_of B i) s → PossiblePrefix B fam p (xy_of B i ++ s)
    possible_of_turn {s} {i} {j} p k e x =
        possible_along (possible_of_x p (z_of B j ++ x.rest) j (R.some j k.there) e)
        (chain_from (xy_z B j x.rest) (chain_sym (chain_join
        (chain_to (chain_behind (xy_of B i) (chain_sym x.chain)) (xy_z B i x.rest))
        (chain_turn k x.rest))))

    -- Proposition 3 for a letter: where no XY in front is clean, the first letter stays
    pub first_stays : {x : ℕ} {u v : Word} → ((i : ℕ) → Clean B (x ∷ u) 0 i → ⊥) → Chain B fam (x ∷ u) v → (t : Word) × (v ≡ x ∷ t) × Chain B fam u t
    first_stays {x} {u} {v} none c =
        let s = strip R (x ∷ []) u (λ d k l f. none k (subst (λ (n : ℕ). Clean B (x ∷ u) n k) (omega arith) f)) c in
        (s.rest, s.product, s.chain)

    pub chain_of_rests : {x : ℕ} {u : Word} → ((i : ℕ) → Clean B (x ∷ u) 0 i → ⊥) → (y : ℕ) (v : Word) → Chain B fam (x ∷ u) (y ∷ v) ↔ ((x ≡ y) × Chain B fam u v)
    chain_of_rests {x} {u} none y v = (
      (λ c. let r = first_stays none c in (sym (head-eq_of_cons-eq r.1), chain_to r.2 (sym (tail-eq_of_cons-eq r.1)))),
      (λ c. chain_to (chain_behind (x ∷ []) c.1) (ap (◌∷ v) c.0)),
    )

    pub possible_of_rests : {x : ℕ} {u : Word} → ((i : ℕ) → Clean B (x ∷ u) 0 i → ⊥) → (y : ℕ) (p : Word) → PossiblePrefix B fam (y ∷ p) (x ∷ u) ↔ ((y ≡ x) × PossiblePrefix B fam p u)
    possible_of_rests {x} {u} none y p = (
      (λ z.
          let r = (chain_of_rests none y (p ++ z.rest)).0 (chain_sym z.chain) in
          (sym r.0, record { rest = z.rest; chain = chain_sym r.1 })),
      (λ z. record { rest = z.1.rest; chain = chain_to (chain_behind (y ∷ []) z.1.chain) (ap (◌∷ u) z.0) }),
    )

    -- the empty word is congruent to itself alone
    pub empty_stays : {v : Word} → Chain B fam [] v → v ≡ []
    empty_stays c = sym (chain_still R (λ d k w. let f = w.fits in let s = R.some k w.there in absurd (omega arith)) c)
