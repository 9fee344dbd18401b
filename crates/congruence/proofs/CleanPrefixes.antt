-- When a word that begins with a clean XY is congruent to a word that begins with XY of the same family: document 003, Lemma 3,
-- each of its conditions exactly, for families of any size.
use Prim.Native.Nat.{ℕ, ◌<◌}
use mathlib.Core.List.{List, [], ◌++◌, append_assoc}
use mathlib.Core.Path.{◌≡◌, sym, ap, ◌∙◌, subst, subst₂}
use mathlib.Core.Logic.{⊎_elim, ◌⊎◌, inl, inr, ◌↔◌}
use native.Mathlib.Omega.{arith}
use lib.ListN.{length, take}
use Rattle.words.specs.Words.{Word}
use Rattle.words.proofs.CommonSuffixes.{LongestSuffix}
use Rattle.overlap.specs.Pieces.{word}
use Rattle.overlap.specs.Cuts.{xy_of, z_of}
use Rattle.congruence.proofs.Heads.{Facts, Clean, clean_of_whole}
use Rattle.congruence.proofs.Places.{xy_z, whole_in_product}
use Rattle.congruence.proofs.Chains.{Kin, Chain, kin_refl, chain_join, chain_sym, chain_behind, chain_from, chain_to}
use Rattle.congruence.proofs.Chains.Chain.{stop}
use Rattle.congruence.proofs.Strips.{Stripped}
use Rattle.congruence.proofs.Activity.{Hangs, inner_z, hangs_one, hanging_end, strip_hanging, swap_prefixes, hangs_of_unlike}
use Rattle.congruence.proofs.Merges.{Meets, Once, Unlike, meets_trans, reached_prefix, once_of_turned, chain_of_once, chain_of_meets}

-- p is a possible prefix of u (document 003: a possible prefix): some word that begins with p is congruent to u
pub record PossiblePrefix (B : List Word) (fam : ℕ → ℕ) (p u : Word) : Type 0 where
  pub rest : Word
  pub chain : Chain B fam (p ++ rest) u

-- s = e s', t = f t', s' and t' are congruent, and z is a possible prefix of s'
pub record Parted (B : List Word) (fam : ℕ → ℕ) (e f z s t : Word) : Type 0 where
  pub left : Word
  pub right : Word
  pub split_left : s ≡ e ++ left
  pub split_right : t ≡ f ++ right
  pub chain : Chain B fam left right
  pub possible : PossiblePrefix B fam z left

module _ {B : List Word} (R : Facts B) where
  -- a whole relation word in front is clean
  pub clean_whole : (i : ℕ) (s : Word) → i < length B → Clean B (xy_of B i ++ (z_of B i ++ s)) 0 i
  clean_whole i s h = subst (λ (w : Word). Clean B w 0 i) (sym (xy_z B i s)) (clean_of_whole R (whole_in_product R [] s i h))

  module _ {fam : ℕ → ℕ} where
    -- conditions (1) and (3): both begin with whole relation words
    pub meets_of_wholes : {i j : ℕ} (s t : Word) → i < length B → j < length B → Chain B fam (word B i ++ s) (word B j ++ t) → Kin B fam i j × Meets B fam i s t
    meets_of_wholes {i} {j} s t h l c =
        let r = reached_prefix R {t = z_of B j ++ t} (clean_whole i s h) l (chain_from (xy_z B i s) (chain_to c (sym (xy_z B j t)))) in (
          r.0,
          ⊎_elim
              (λ p. record { by = i; kin = kin_refl h; chain = chain_to p.1 (ap (λ (n : ℕ). z_of B n ++ t) (sym p.0)) })
              (λ x.
              meets_trans R (record { by = i; kin = kin_refl h; chain = x.from })
              (meets_trans R x.meets (record { by = j; kin = r.0; chain = x.to })))
              r.1,
        )

    pub wholes_iff : {i j : ℕ} (s t : Word) → Kin B fam i j → Chain B fam (word B i ++ s) (word B j ++ t) ↔ Meets B fam i s t
    wholes_iff s t k = ((λ c. (meets_of_wholes s t k.here k.there c).1), chain_of_meets R k)

    -- condition (2): the same XY, and not Z behind both
    pub rests_of_same : {i : ℕ} (s t : Word) → Clean B (xy_of B i ++ s) 0 i → Unlike (z_of B i) s ⊎ Unlike (z_of B i) t → Chain B fam (xy_of B i ++ s) (xy_of B i ++ t) ↔ Chain B fam s t
    rests_of_same {i} s t h u = (to, chain_behind (xy_of B i))
      where
        to : Chain B fam (xy_of B i ++ s) (xy_of B i ++ t) → Chain B fam s t
        to c =
            let r = reached_prefix R h h.at.there c in
            ⊎_elim (λ p. p.1) (λ x. let o = once_of_turned R r.0 x u in chain_join o.from o.to) r.1

    -- from different XY there is a turn
    once_of_chain : {i j : ℕ} {s t : Word} → Clean B (xy_of B i ++ s) 0 i → j < length B → (i ≡ j → ⊥) → Unlike (z_of B i) s ⊎ Unlike (z_of B j) t
        → Chain B fam (xy_of B i ++ s) (xy_of B j ++ t) → Once B fam i s j t
    once_of_chain h l n u c = let r = reached_prefix R h l c in ⊎_elim (λ p. absurd (n p.0)) (λ x. once_of_turned R r.0 x u) r.1

    -- condition (4): different XY, s does not begin with Z, and v is a whole relation word and t
    pub rests_of_left : {i j : ℕ} (s t : Word) → Clean B (xy_of B i ++ s) 0 i → Kin B fam i j → (i ≡ j → ⊥) → Unlike (z_of B i) s
        → Chain B fam (xy_of B i ++ s) (word B j ++ t) ↔ Chain B fam s (z_of B i ++ t)
    rests_of_left {i} {j} s t h k n u = (to, from)
      where
        to : Chain B fam (xy_of B i ++ s) (word B j ++ t) → Chain B fam s (z_of B i ++ t)
        to c =
            let o = once_of_chain {t = z_of B j ++ t} h k.there n (inl u) (chain_to c (sym (xy_z B j t))) in
            let g = hangs_of_unlike R (inner_z R i k.here) (chain_sym o.from) u in
            chain_join o.from (swap_prefixes R t (inner_z R j k.there) (inner_z R i k.here) g.2 o.to)

        from : Chain B fam s (z_of B i ++ t) → Chain B fam (xy_of B i ++ s) (word B j ++ t)
        from c = chain_to (chain_of_once R k (record { rest = t; from = c; to = stop })) (xy_z B j t)

    -- condition (5): different XY, u is a whole relation word and s, and t does not begin with Z
    pub rests_of_right : {i j : ℕ} (s t : Word) → Kin B fam i j → (i ≡ j → ⊥) → Unlike (z_of B j) t
        → Chain B fam (word B i ++ s) (xy_of B j ++ t) ↔ Chain B fam (z_of B j ++ s) t
    rests_of_right {i} {j} s t k n u = (to, from)
      where
        to : Chain B fam (word B i ++ s) (xy_of B j ++ t) → Chain B fam (z_of B j ++ s) t
        to c =
            let o = once_of_chain {s = z_of B i ++ s} {t = t} (clean_whole i s k.here) k.there n (inr u) (chain_from (xy_z B i s) c) in
            let g = hangs_of_unlike R (inner_z R j k.there) o.to u in
            chain_join (chain_sym (swap_prefixes R s (inner_z R i k.here) (inner_z R j k.there) g.2 (chain_sym o.from))) o.to

        from : Chain B fam (z_of B j ++ s) t → Chain B fam (word B i ++ s) (xy_of B j ++ t)
        from c = chain_from (sym (xy_z B i s)) (chain_of_once R k (record { rest = s; from = stop; to = c }))

    -- condition (6): different XY, and Z behind neither
    pub parted_of_unlikes : {i j : ℕ} (s t : Word) {e f z : Word} → Clean B (xy_of B i ++ s) 0 i → Kin B fam i j → (i ≡ j → ⊥) → Unlike (z_of B i) s → Unlike (z_of B j) t
        → LongestSuffix (z_of B i) (z_of B j) e f z → Chain B fam (xy_of B i ++ s) (xy_of B j ++ t) ↔ Parted B fam e f z s t
    parted_of_unlikes {i} {j} s t {e} {f} {z} h k n u w m = (to, from)
      where
        to : Chain B fam (xy_of B i ++ s) (xy_of B j ++ t) → Parted B fam e f z s t
        to c = go (once_of_chain h k.there n (inl u) c)
          where
            go : Once B fam i s j t → Parted B fam e f z s t
            go o =
                let g = hangs_of_unlike R (inner_z R i k.here) (chain_sym o.from) u in
                let g' = hangs_of_unlike R (inner_z R j k.there) o.to w in
                part g.0 g.1 g.2 (let y = hangs_one R g'.2 g.2 in subst₂ (Hangs B (z_of B j) o.rest) y.0 y.1 g'.2)
              where
                part : (q n : ℕ) → Hangs B (z_of B i) o.rest q n → Hangs B (z_of B j) o.rest q n → Parted B fam e f z s t
                part q n g g' =
                    let a = hanging_end g in
                    let b = hanging_end g' in
                    let l = m.most a.0 b.0 (take n (word B q)) a.1 b.1 in
                    let y : Stripped B fam e (z ++ o.rest) s = strip_hanging R e z (inner_z R i k.here) g m.left (omega (arith, a.2)) (chain_sym o.from) in
                    let y' : Stripped B fam f (z ++ o.rest) t = strip_hanging R f z (inner_z R j k.there) g' m.right (omega (arith, a.2)) o.to in
                    record {
                      left = y.rest;
                      right = y'.rest;
                      split_left = y.product;
                      split_right = y'.product;
                      chain = chain_join (chain_sym y.chain) y'.chain;
                      possible = record { rest = o.rest; chain = y.chain };
                    }

        from : Parted B fam e f z s t → Chain B fam (xy_of B i ++ s) (xy_of B j ++ t)
        from p =
            let r = p.possible.rest in
            chain_of_once R k (record {
              rest = r;
              from = chain_from p.split_left (chain_to (chain_behind e (chain_sym p.possible.chain)) (sym (ap (◌++ r) m.left ∙ append_assoc e z r)));
              to = chain_from (ap (◌++ r) m.right ∙ append_assoc f z r) (chain_to (chain_behind f (chain_join p.possible.chain p.chain)) (sym p.split_right));
            })
