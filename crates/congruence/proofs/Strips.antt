-- What stands before the first clean relation prefix stays: document 003, Corollaries 1 and 2 and Propositions 3 and 4.
use Prim.Native.Nat.{ℕ, zero, suc, ◌+◌, ◌-◌, ◌≤◌, ◌<◌}
use mathlib.Core.Bool.{Bool, true, false, true≢false}
use mathlib.Core.List.{List, ◌++◌, append_assoc}
use mathlib.Core.Path.{◌≡◌, refl, sym, ap, ◌∙◌, subst}
use mathlib.Core.Logic.{by_cases, ⊎_elim, ◌⊎◌, inl, inr}
use native.Mathlib.Omega.{arith}
use native.Mathlib.Decide.{dec_le, dec_lt}
use lib.ListN.{length}
use Rattle.words.specs.Words.{Word}
use Rattle.overlap.specs.Cuts.{xylen, xy_of}
use Rattle.congruence.specs.Rows.{has_relation_prefix_at}
use Rattle.congruence.proofs.Heads.{Facts, Prefix, Whole, Clean, one_word, prefix_of_whole}
use Rattle.congruence.proofs.RowTests.{stands_found, stands_of_prefix, clean_or_between}
use Rattle.congruence.proofs.Places.{split_longer, product_of_prefix, whole_in_product}
use Rattle.congruence.proofs.Chains.{Chain, chain_behind, chain_from}
use Rattle.congruence.proofs.Chains.Chain.{stop, step}
use Rattle.congruence.proofs.Guards.{Guard, guard_of_first}
use Rattle.congruence.proofs.Tracks.{Kept, kept, chain_of_track}

-- the first clean relation prefix of u
pub record First (B : List Word) (u : Word) : Type 0 where
  pub place : ℕ
  pub by : ℕ
  pub is_clean : Clean B u place by
  pub before : (d k : ℕ) → d < place → Clean B u d k → ⊥

-- what a chain from a s ends in, where a stays
pub record Stripped (B : List Word) (fam : ℕ → ℕ) (a s v : Word) : Type 0 where
  pub rest : Word
  pub product : v ≡ a ++ rest
  pub chain : Chain B fam s rest
  pub none : (d k : ℕ) → Whole B v d k → d < length a → ⊥

module _ {B : List Word} (R : Facts B) where
  -- some clean relation prefix begins at a place, or none does
  pub clean_at_or_none : (u : Word) (p : ℕ) → ((i : ℕ) × Clean B u p i) ⊎ ((i : ℕ) → Clean B u p i → ⊥)
  clean_at_or_none u p = go (has_relation_prefix_at B u p) refl
    where
      go : (b : Bool) → has_relation_prefix_at B u p ≡ b → ((i : ℕ) × Clean B u p i) ⊎ ((i : ℕ) → Clean B u p i → ⊥)
      go true e =
          let f = stands_found R u p e in
          ⊎_elim (λ c. inl (f.0, c))
          (λ x. inr (λ i c. c.only x.0 x.1 x.2 (subst (λ (n : ℕ). x.0 < p + xylen B n) (one_word R f.1 c.at) x.3) x.4))
          (clean_or_between R f.1)
      go false e = inr (λ i c. true≢false (sym (stands_of_prefix R c.at) ∙ e))

  pub first_below : (u : Word) (n : ℕ) → First B u ⊎ ((d k : ℕ) → d < n → Clean B u d k → ⊥)
  first_below u zero = inr (λ d k h c. absurd (omega arith))
  first_below u (suc n) = ⊎_elim inl
      (λ none. ⊎_elim (λ c. inl (record { place = n; by = c.0; is_clean = c.1; before = none }))
      (λ here. inr (λ d k h c. by_cases (dec_lt d n) (λ a. none d k a c) (λ a. here k (subst (λ (m : ℕ). Clean B u m k) (omega arith) c))))
      (clean_at_or_none u n))
      (first_below u n)

  -- a word with an XY has a clean one: the last is clean
  pub clean_of_prefix : {u : Word} {p i : ℕ} → Prefix B u p i → (q : ℕ) × (j : ℕ) × Clean B u q j
  clean_of_prefix {u} {p} {i} f = go (suc (length u - p)) p i f (omega arith)
    where
      go : (n p i : ℕ) → Prefix B u p i → length u - p < n → (q : ℕ) × (j : ℕ) × Clean B u q j
      go zero p i f h = absurd (omega arith)
      go (suc n) p i f h = ⊎_elim
          (λ c. (p, i, c))
          (λ x. go n x.0 x.1 x.4 (let a = x.2 in let b = x.4.fits in let s = R.some x.1 x.4.there in omega arith))
          (clean_or_between R f)

  -- the first clean relation prefix, or no XY at all (Corollary 1)
  pub first_or_none : (u : Word) → First B u ⊎ ((d k : ℕ) → Prefix B u d k → ⊥)
  first_or_none u = ⊎_elim inl
      (λ none. inr (λ d k f.
      let c = clean_of_prefix f in
      let a = c.2.at.fits in
      let s = R.some c.1 c.2.at.there in
      none c.0 c.1 (omega arith) c.2))
      (first_below u (length u))

  module _ {fam : ℕ → ℕ} where
    -- a word without relation words has only itself (Corollary 1)
    pub chain_still : {u v : Word} → ((d k : ℕ) → Whole B u d k → ⊥) → Chain B fam u v → u ≡ v
    chain_still none stop = refl
    chain_still none (step x c) =
        absurd (none (length x.before) x.by
        (subst (λ (y : Word). Whole B y (length x.before) x.by) x.from (whole_in_product R x.before x.after x.by x.kin.here)))

    -- a prefix before which no clean relation prefix begins stays under every chain (Corollary 2, Propositions 3 and 4)
    pub strip : (a s : Word) {v : Word} → ((d k : ℕ) → d < length a → Clean B (a ++ s) d k → ⊥) → Chain B fam (a ++ s) v → Stripped B fam a s v
    strip a s {v} none c = ⊎_elim from_first
        (λ none.
        let e = chain_still (λ d k w. none d k (prefix_of_whole R w)) c in
        record {
          rest = s;
          product = sym e;
          chain = stop;
          none = λ d k w h. none d k (prefix_of_whole R (subst (λ (y : Word). Whole B y d k) (sym e) w));
        })
        (first_or_none (a ++ s))
      where
        from_first : First B (a ++ s) → Stripped B fam a s v
        from_first f = go (product_of_prefix f.is_clean.at)
          where
            late : length a ≤ f.place
            late = by_cases (dec_le (length a) f.place) (λ y. y) (λ y. absurd (none f.place f.by (omega arith) f.is_clean))

            guard : Guard B (a ++ s) f.place
            guard = guard_of_first R f.is_clean f.before

            go : (w : Word) × (r : Word) × (a ++ s ≡ w ++ (xy_of B f.by ++ r)) × (length w ≡ f.place) → Stripped B fam a s v
            go x =
                let l : length a ≤ length x.0 = omega (arith, x.3, late) in
                let m = split_longer x.0 a (xy_of B f.by ++ x.1) s (sym x.2) l in
                ended x m.0 m.1 m.2 l
                (kept R c x.0 f.by x.1 x.2
                (subst (Guard B (a ++ s)) (sym x.3) guard)
                (subst (λ (p : ℕ). Clean B (a ++ s) p f.by) (sym x.3) f.is_clean))
              where
                ended : (x : (w : Word) × (r : Word) × (a ++ s ≡ w ++ (xy_of B f.by ++ r)) × (length w ≡ f.place)) (m : Word) → x.0 ≡ a ++ m
                    → s ≡ m ++ (xy_of B f.by ++ x.1) → length a ≤ length x.0 → Kept B fam x.0 f.by x.1 v → Stripped B fam a s v
                ended x m e g l k =
                    record {
                      rest = m ++ (xy_of B k.into ++ k.rest);
                      product = k.product ∙ ap (◌++ (xy_of B k.into ++ k.rest)) e ∙ append_assoc a m (xy_of B k.into ++ k.rest);
                      chain = chain_from g (chain_behind m (chain_of_track k.track));
                      none = λ d n w h. let o = k.alone d n w (omega arith) in absurd (omega arith);
                    }

    -- the same where no XY at all begins before the end of a
    pub strip_no_prefix : (a s : Word) {v : Word} → ((d k : ℕ) → d < length a → Prefix B (a ++ s) d k → ⊥) → Chain B fam (a ++ s) v → Stripped B fam a s v
    strip_no_prefix a s none c = strip a s (λ d k h f. none d k h f.at) c
