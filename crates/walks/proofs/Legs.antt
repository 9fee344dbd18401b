-- One leg of the walk: along letters that the mark and the word have in common and before which no clean relation prefix begins.
use Prim.Native.Nat.{ℕ, zero, suc, ◌+◌, ◌≤◌, ◌<◌}
use mathlib.Core.Bool.{Bool, true, false, ◌&&◌}
use mathlib.Core.Logic.{by_cases}
use mathlib.Core.List.{List, [], ◌∷◌}
use mathlib.Core.Path.{◌≡◌, refl, ap, ◌∙◌}
use native.Mathlib.Omega.{arith}
use native.Mathlib.Decide.{dec_lt}
use borrow.Author.Tests.{eq-eqb, ne_eqb}
use lib.Dec.{eqb}
use lib.ListN.{length, get_or, drop, length-drop, drop_of_length-le}
use lib.Seq.{drop-drop, get_or-drop}
use Rattle.words.specs.Words.{Word, is_prefix, common_prefix}
use Rattle.words.proofs.Commons.{common_within, common_at, common_differ, common_no_prefix}
use Rattle.congruence.specs.Rows.{clean_relation_prefix, alike}
use Rattle.least.specs.Possible.{possible}
use Rattle.least.proofs.Possible.{possible_empty, possible_letter, possible_unlike}

-- letters that two words have in common can be taken from both
pub prefix_rest : (p u : Word) (m : ℕ) → m ≤ common_prefix p u → is_prefix (drop m p) (drop m u) ≡ is_prefix p u
unfolding common_prefix is_prefix
prefix_rest p u zero h = refl
prefix_rest [] u (suc m) h = absurd (omega arith)
prefix_rest (x ∷ p) [] (suc m) h = absurd (omega arith)
prefix_rest (x ∷ p) (y ∷ u) (suc m) h = go (eqb x y) refl (λ l. prefix_rest p u m l)
  where
    go : (t : Bool) → eqb x y ≡ t → (m ≤ common_prefix p u → is_prefix (drop m p) (drop m u) ≡ is_prefix p u) → is_prefix (drop m p) (drop m u) ≡ (eqb x y && is_prefix p u)
    go true e r = let h' = rw e at h in rw e (r (omega arith))
    go false e r = let h' = rw e at h in absurd (omega arith)

-- the first letters behind m letters
alike_rest : (p u : Word) (m : ℕ) → alike (drop m p) (drop m u) ≡ eqb (get_or p m 0) (get_or u m 0)
alike_rest p u m =
    let z : m + 0 ≡ m = omega arith in
    rw (get_or-drop m p 0 0, get_or-drop m u 0 0, z)

module _ (B : List Word) (fam : ℕ → ℕ) (p u : Word) where
  -- the walk goes along letters in common where no clean relation prefix begins
  pub passed : (m : ℕ) → is_prefix p u ≡ false → m ≤ common_prefix p u → ((k : ℕ) → k < m → length B ≤ clean_relation_prefix B (drop k u))
      → possible B fam p u ≡ possible B fam (drop m p) (drop m u)
  passed zero e h n = refl
  passed (suc m) e h n =
      let w = common_within p u in
      let l = length-drop m u in
      let s : m + 1 ≡ suc m = omega arith in
      passed m e (omega arith) (λ k b. n k (omega arith))
      ∙ possible_letter B fam (drop m p) (drop m u) (prefix_rest p u m (omega arith) ∙ e) (omega arith) (n m (omega arith))
      (alike_rest p u m ∙ eq-eqb (get_or p m 0) (get_or u m 0) (common_at p u m (omega arith)))
      ∙ rw (drop-drop 1 m p, drop-drop 1 m u, s)

  -- it ends where they differ, if no clean relation prefix begins there either
  pub ends : (m : ℕ) → m ≡ common_prefix p u → m < length p → ((k : ℕ) → k ≤ m → k < length u → length B ≤ clean_relation_prefix B (drop k u)) → possible B fam p u ≡ false
  ends m q h n =
      let w = common_within p u in
      let e = common_no_prefix p u (omega arith) in
      let r = prefix_rest p u m (omega arith) ∙ e in
      passed m e (omega arith) (λ k b. n k (omega arith) (omega arith)) ∙ by_cases (dec_lt m (length u))
      (λ l. possible_unlike B fam (drop m p) (drop m u) r (n m (omega arith) l) (alike_rest p u m ∙ ne_eqb (get_or p m 0) (get_or u m 0)
      (λ g. common_differ p u (omega arith) (omega arith) (rw q at g))))
      (λ l.
      let d : drop m u ≡ [] = drop_of_length-le u {i = m} (omega arith) in
      ap (possible B fam (drop m p)) d ∙ possible_empty B fam (drop m p) (rw d at r))
