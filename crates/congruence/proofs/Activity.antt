-- Activity: document 003, section 2, from "p-active" to Proposition 5 and Corollary 3.
-- The words in front are ends: they stand in a relation word, not at its start. Every Z is one, and so is every mark of a comparison.
use Prim.Native.Nat.{ℕ, suc, ◌+◌, ◌-◌, ◌≤◌, ◌<◌}
use mathlib.Core.Bool.{Bool, true, false}
use mathlib.Core.List.{List, [], ◌++◌, append_assoc, append_cancel_left}
use mathlib.Core.Path.{◌≡◌, refl, sym, ap, ◌∙◌, subst, subst₂}
use mathlib.Core.Logic.{by_cases, ⊎_elim, ◌⊎◌, inl, inr}
use native.Mathlib.Omega.{arith}
use native.Mathlib.Decide.{dec_le}
use lib.ListN.{length, get_or, take, drop, length-append, length-drop, take-append-drop, drop_of_length-le}
use lib.Seq.{get_or-drop, length-take-le, ext_get_or, drop-nil}
use Rattle.words.specs.Words.{Word}
use Rattle.words.proofs.Segments.{Same, same_sym, same_via}
use Rattle.overlap.specs.Pieces.{word}
use Rattle.overlap.specs.Cuts.{len, xlen, xylen, z_of}
use Rattle.congruence.specs.Rows.{active}
use Rattle.congruence.proofs.Heads.{Facts, Prefix}
use Rattle.congruence.proofs.RowTests.{same_take, active_found, active_none}
use Rattle.congruence.proofs.Places.{same_left, same_right}
use Rattle.congruence.proofs.Chains.{Chain, chain_behind, chain_from, chain_to}
use Rattle.congruence.proofs.Strips.{Stripped, strip_no_prefix}

-- z is empty, or stands in a relation word, not at its start
pub data InnerFactor (B : List Word) (z : Word) : Type 0 where
  nothing : z ≡ [] → InnerFactor B z
  inside : (i c : ℕ) → i < length B → 0 < c → c + length z ≤ len B i → Same z 0 (word B i) c (length z) → InnerFactor B z

-- XY of j begins in z t with the last k letters of z, and they are a prefix of X: t is z-active
pub record Hangs (B : List Word) (z t : Word) (j k : ℕ) : Type 0 where
  pub some : 0 < k
  pub short : k ≤ xlen B j
  pub part : k ≤ length z
  pub at : Prefix B (z ++ t) (length z - k) j

-- words of one length with the same letters
same_eq : (a b : Word) → length a ≡ length b → Same a 0 b 0 (length a) → a ≡ b
same_eq a b l s =
    ext_get_or 0 a b l (λ k h. ap (λ m. get_or a m 0) (omega arith) ∙ s.at k h ∙ ap (λ m. get_or b m 0) (omega arith))

same_drop : (w : Word) (p n : ℕ) → Same (drop p w) 0 w p n
same_drop w p n = record { at = λ k h. ap (λ m. get_or (drop p w) m 0) (omega arith) ∙ get_or-drop p w k 0 }

module _ {B : List Word} where
  -- an end of a relation word, and a part of an end at its right
  pub inner_drop : (i c : ℕ) → i < length B → 0 < c → c ≤ len B i → InnerFactor B (drop c (word B i))
  inner_drop i c h p l = let d = length-drop c (word B i) in inside i c h p (omega arith) (same_drop (word B i) c (length (drop c (word B i))))

  pub inner_rest : (n : ℕ) {z : Word} → InnerFactor B z → InnerFactor B (drop n z)
  inner_rest n {z} (nothing e) = nothing (subst (λ (y : Word). drop n y ≡ []) (sym e) (drop-nil n))
  inner_rest n {z} (inside i c h p l s) = by_cases (dec_le n (length z))
      (λ a. let d = length-drop n z in inside i (c + n) h (omega arith) (omega arith) (same_via (same_drop z n (length (drop n z))) s (omega arith)))
      (λ a. nothing (drop_of_length-le z {i = n} (omega arith)))

  -- X of a hanging XY ends inside t: t begins with the rest of XY
  hung : {z t : Word} {j k : ℕ} → Hangs B z t j k → Same (word B j) k t 0 (xylen B j - k)
  hung {z} {t} {j} {k} h = let p = h.part in same_via h.at.same (same_right z t (xylen B j - k)) (omega arith)

  -- the letters of z with which a hanging XY begins
  pub hanging_end : {z t : Word} {j k : ℕ} → Hangs B z t j k → (b : Word) × (z ≡ b ++ take k (word B j)) × (length (take k (word B j)) ≡ k)
  hanging_end {z} {t} {j} {k} h = (
    take (length z - k) z,
    sym (ap (take (length z - k) z ++◌) e ∙ take-append-drop (length z - k) z),
    let q = h.at.part in let r = h.at.long in let o = h.short in length-take-le k (word B j) (omega arith),
  )
    where
      e : take k (word B j) ≡ drop (length z - k) z
      e =
          let p = h.part in
          let q = h.at.part in
          let r = h.at.long in
          let o = h.short in
          let l = length-take-le k (word B j) (omega arith) in
          let d = length-drop (length z - k) z in
          let a : Same (take k (word B j)) 0 (z ++ t) (length z - k) k = same_via (same_take (word B j) k) h.at.same (omega arith) in
          let b : Same (take k (word B j)) 0 z (length z - k) k = same_via a (same_left z t) (omega arith) in
          same_eq (take k (word B j)) (drop (length z - k) z) (omega arith) (same_via b (same_sym (same_drop z (length z - k) k)) (omega arith))

  module _ (R : Facts B) where
    pub inner_z : (i : ℕ) → i < length B → InnerFactor B (z_of B i)
    inner_z i h = let s = R.some i h in inner_drop i (xylen B i) h (omega arith) (omega arith)

    -- an XY that begins in an end has all of Y behind it
    pub hangs_of_prefix : {z t : Word} {d j : ℕ} → InnerFactor B z → Prefix B (z ++ t) d j → d < length z → Hangs B z t j (length z - d)
    hangs_of_prefix {z} {t} {d} {j} (nothing e) f l = let y = ap length e in absurd (omega arith)
    hangs_of_prefix {z} {t} {d} {j} (inside i c h p m s) f l = by_cases (dec_le (length z - d) (xlen B j))
        (λ a. record { some = omega arith; short = a; part = omega arith; at = subst (λ (n : ℕ). Prefix B (z ++ t) n j) (omega arith) f })
        (λ a.
        let y : Same (word B j) 0 z d (suc (xlen B j)) = let g = f.long in same_via f.same (same_left z t) (omega arith) in
        let g = f.long in
        let r =
        R.marker j i (c + d) (suc (xlen B j)) f.there h (omega arith) (omega arith) (omega arith)
        (same_via y s (omega arith)) in
        absurd (omega (arith, r.1)))

    -- one XY at most hangs over t, and with the same letters, whatever end stands before t (Proposition 5)
    pub hangs_one : {z z' t : Word} {j k j' k' : ℕ} → Hangs B z t j k → Hangs B z' t j' k' → (j ≡ j') × (k ≡ k')
    hangs_one {z} {z'} {t} {j} {k} {j'} {k'} g h = by_cases (dec_le (xylen B j - k) (xylen B j' - k'))
        (λ a. longer g h a)
        (λ a. let r = longer h g (omega arith) in (sym r.0, sym r.1))
      where
        longer : {z z' : Word} {j k j' k' : ℕ} → Hangs B z t j k → Hangs B z' t j' k' → xylen B j - k ≤ xylen B j' - k' → (j ≡ j') × (k ≡ k')
        longer {z} {z'} {j} {k} {j'} {k'} g h a =
            let gs = g.short in
            let gl = g.at.long in
            let hs = h.short in
            let hl = h.at.long in
            let r =
            R.middle j j' (k' + xlen B j - k) g.at.there h.at.there (omega arith)
            (same_via (hung g) (same_sym (hung h)) (omega arith)) in
            (r.0, omega (arith, r.1))

    -- t is z-active or not
    pub hangs_or_no_prefix : {z : Word} → InnerFactor B z → (t : Word) → ((j : ℕ) × (k : ℕ) × Hangs B z t j k) ⊎ ((d j : ℕ) → d < length z → Prefix B (z ++ t) d j → ⊥)
    hangs_or_no_prefix {z} n t = go (active B z t) refl
      where
        go : (b : Bool) → active B z t ≡ b → ((j : ℕ) × (k : ℕ) × Hangs B z t j k) ⊎ ((d j : ℕ) → d < length z → Prefix B (z ++ t) d j → ⊥)
        go true e = let f = active_found R z t e in inl (f.1, length z - f.0, hangs_of_prefix n f.3 f.2)
        go false e = inr (active_none R z t e)

    module _ {fam : ℕ → ℕ} where
      -- what stands before a hanging XY stays (Proposition 5)
      pub strip_hanging : {z t : Word} (b e : Word) {j k : ℕ} {v : Word} → InnerFactor B z → Hangs B z t j k → z ≡ b ++ e → k ≤ length e → Chain B fam (z ++ t) v → Stripped B fam b (e ++ t) v
      strip_hanging {z} {t} b e {j} {k} {v} n h q l c =
          let same : z ++ t ≡ b ++ (e ++ t) = ap (◌++ t) q ∙ append_assoc b e t in
          let long = simp length-append at (ap length q) in
          strip_no_prefix R b (e ++ t)
          (λ d i y f.
          let o = hangs_one (hangs_of_prefix n (subst (λ (w : Word). Prefix B w d i) (sym same) f) (omega arith)) h in
          absurd (omega (arith, o.1)))
          (chain_from (sym same) c)

      -- a common prefix may be changed for one for which the rest is active (Corollary 3)
      pub swap_prefixes : {z z' t : Word} {j k : ℕ} (t' : Word) → InnerFactor B z → InnerFactor B z' → Hangs B z' t j k → Chain B fam (z ++ t) (z ++ t') → Chain B fam (z' ++ t) (z' ++ t')
      swap_prefixes {z} {z'} {t} {j} {k} t' n n' h c = ⊎_elim
          (λ g. hanging (let o = hangs_one g.2 h in subst₂ (Hangs B z t) o.0 o.1 g.2))
          (λ q. let s = strip_no_prefix R z t q c in chain_behind z' (chain_to s.chain (append_cancel_left z s.rest t' (sym s.product))))
          (hangs_or_no_prefix n t)
        where
          hanging : Hangs B z t j k → Chain B fam (z' ++ t) (z' ++ t')
          hanging g = go (hanging_end g) (hanging_end h)
            where
              go : (b : Word) × (z ≡ b ++ take k (word B j)) × (length (take k (word B j)) ≡ k)
                  → (b : Word) × (z' ≡ b ++ take k (word B j)) × (length (take k (word B j)) ≡ k)
                  → Chain B fam (z' ++ t) (z' ++ t')
              go x y =
                  let s = strip_hanging x.0 (take k (word B j)) n g x.1 (omega (arith, x.2)) c in
                  let e : s.rest ≡ take k (word B j) ++ t' = append_cancel_left x.0 s.rest (take k (word B j) ++ t') (sym s.product ∙ ap (◌++ t') x.1 ∙ append_assoc x.0 (take k (word B j)) t') in
                  let d : Chain B fam (y.0 ++ (take k (word B j) ++ t)) (y.0 ++ (take k (word B j) ++ t')) = chain_behind y.0 (chain_to s.chain e) in
                  chain_from (ap (◌++ t) y.1 ∙ append_assoc y.0 (take k (word B j)) t)
                  (chain_to d (sym (ap (◌++ t') y.1 ∙ append_assoc y.0 (take k (word B j)) t')))

      -- a word that loses its prefix z under a chain has a z-active rest (Proposition 4)
      pub hangs_of_unlike : {z t s : Word} → InnerFactor B z → Chain B fam (z ++ t) s → ((r : Word) → s ≡ z ++ r → ⊥) → (j : ℕ) × (k : ℕ) × Hangs B z t j k
      hangs_of_unlike {z} {t} {s} n c unlike = ⊎_elim (λ h. h) (λ q. let r = strip_no_prefix R z t q c in absurd (unlike r.rest r.product)) (hangs_or_no_prefix n t)
