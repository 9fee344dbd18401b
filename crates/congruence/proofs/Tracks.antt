-- What a chain leaves in place: document 003, Lemma 2. From a guarded clean XY every chain keeps what precedes it, puts members of one family
-- for XY alone, and lets no other relation word begin before its end.
use Prim.Native.Nat.{ℕ, ◌+◌, ◌≤◌, ◌<◌}
use mathlib.Core.List.{List, ◌++◌, append_assoc}
use mathlib.Core.Path.{◌≡◌, refl, sym, ap, ◌∙◌, subst, subst₂}
use mathlib.Core.Logic.{by_cases, ⊎_elim}
use native.Mathlib.Omega.{arith}
use native.Mathlib.Decide.{dec_le, dec_lt, ℕ_discrete}
use lib.ListN.{length, length-append}
use Rattle.words.specs.Words.{Word}
use Rattle.words.proofs.Segments.{Same, same_sym, same_sub}
use Rattle.overlap.specs.Pieces.{word}
use Rattle.overlap.specs.Cuts.{xylen, xy_of, z_of}
use Rattle.overlap.proofs.Facts.{length_xy}
use Rattle.congruence.proofs.Heads.{Facts, Prefix, Whole, Clean, head_move, one_word, clean_of_whole, prefix_of_whole}
use Rattle.congruence.proofs.RowTests.{clean_or_between}
use Rattle.congruence.proofs.Places.{split_longer, split_same, same_lefts, xy_z, whole_in_product}
use Rattle.congruence.proofs.Chains.{Kin, Step, Chain, kin_refl, kin_trans, chain_join, chain_behind, chain_from, chain_to, chain_turn, chain_of_eq}
use Rattle.congruence.proofs.Chains.Chain.{stop, step}
use Rattle.congruence.proofs.Guards.{Guard, guard_move, none_before, guard_further}

-- a chain from XY of i and s to XY of j and t: steps inside the rest, and turns of one member Z r into another (i and s come last, since they vary)
pub data Track (B : List Word) (fam : ℕ → ℕ) (j : ℕ) (t : Word) : ℕ → Word → Type 0 where
  quit : {i : ℕ} {s : Word} → i ≡ j → Chain B fam s t → Track B fam j t i s
  turn : {i : ℕ} {s : Word} (l : ℕ) (r : Word) → Chain B fam s (z_of B i ++ r) → Kin B fam i l → Track B fam j t l (z_of B l ++ r) → Track B fam j t i s

-- what a chain from w XY s, XY of i, ends in
pub record Kept (B : List Word) (fam : ℕ → ℕ) (w : Word) (i : ℕ) (s v : Word) : Type 0 where
  pub into : ℕ
  pub rest : Word
  pub kin : Kin B fam i into
  pub product : v ≡ w ++ (xy_of B into ++ rest)
  -- a relation word that begins before the end of XY begins with XY
  pub alone : (d k : ℕ) → Whole B v d k → d < length w + xylen B into → d ≡ length w
  pub track : Track B fam into rest i s

module _ {B : List Word} {fam : ℕ → ℕ} where
  pub track_after : {j : ℕ} {t : Word} {i : ℕ} {s s' : Word} → Chain B fam s s' → Track B fam j t i s' → Track B fam j t i s
  track_after c (quit e d) = quit e (chain_join c d)
  track_after c (turn l r d k m) = turn l r (chain_join c d) k m

  -- a track is a chain
  pub chain_of_track : {j : ℕ} {t : Word} {i : ℕ} {s : Word} → Track B fam j t i s → Chain B fam (xy_of B i ++ s) (xy_of B j ++ t)
  chain_of_track {j} {t} {i} {s} (quit e c) = chain_to (chain_behind (xy_of B i) c) (ap (λ (n : ℕ). xy_of B n ++ t) e)
  chain_of_track {j} {t} {i} {s} (turn l r c k m) =
      chain_join (chain_behind (xy_of B i) c)
      (chain_from (xy_z B i r) (chain_join (chain_to (chain_turn k r) (sym (xy_z B l r))) (chain_of_track m)))

  module _ (R : Facts B) where
    module _ {u u₁ v : Word} (x : Step B fam u u₁)
        (later : (w : Word) (i : ℕ) (s : Word) → u₁ ≡ w ++ (xy_of B i ++ s) → Guard B u₁ (length w) → Clean B u₁ (length w) i → Kept B fam w i s v)
        (w : Word) (i : ℕ) (s : Word) (e : u ≡ w ++ (xy_of B i ++ s)) (g : Guard B u (length w)) (h : Clean B u (length w) i) where
      was : Whole B u (length x.before) x.by
      was = subst (λ (y : Word). Whole B y (length x.before) x.by) x.from (whole_in_product R x.before x.after x.by x.kin.here)

      now : Whole B u₁ (length x.before) x.into
      now = subst (λ (y : Word). Whole B y (length x.before) x.into) x.to (whole_in_product R x.before x.after x.into x.kin.there)

      agree : Same u 0 u₁ 0 (length x.before)
      agree = subst₂ (λ (y z : Word). Same y 0 z 0 (length x.before)) x.from x.to (same_lefts x.before _ _)

      -- the step is at XY itself
      kept_at : length x.before ≡ length w → Kept B fam w i s v
      kept_at l =
          let a = split_same x.before w (word B x.by ++ x.after) (xy_of B i ++ s) (x.from ∙ e) l in
          let n : x.by ≡ i = one_word R (subst (λ (p : ℕ). Whole B u p x.by) l was) h.at in
          let rest : s ≡ z_of B i ++ x.after = (split_same (xy_of B i) (xy_of B i) s (z_of B i ++ x.after) (sym a.1 ∙ ap (λ (m : ℕ). word B m ++ x.after) n ∙ sym (xy_z B i x.after)) refl).1 in
          let k : Kin B fam i x.into = subst (λ (m : ℕ). Kin B fam m x.into) n x.kin in
          let product : u₁ ≡ w ++ (xy_of B x.into ++ (z_of B x.into ++ x.after)) = sym x.to ∙ ap (◌++ (word B x.into ++ x.after)) a.0 ∙ ap (w ++◌) (sym (xy_z B x.into x.after)) in
          let fits = was.fits in
          let fits₁ = now.fits in
          let done = later w x.into (z_of B x.into ++ x.after) product
          (guard_move g (same_sub agree (omega arith)) (omega arith))
          (subst (λ (p : ℕ). Clean B u₁ p x.into) l (clean_of_whole R now)) in
          record {
            into = done.into;
            rest = done.rest;
            kin = kin_trans k done.kin;
            product = done.product;
            alone = done.alone;
            track = turn x.into x.after (chain_of_eq rest) k done.track;
          }

      -- the step is behind XY
      kept_behind : length w + xylen B i ≤ length x.before → Kept B fam w i s v
      kept_behind l =
          let f = was.fits in
          let f₁ = now.fits in
          let lx = length_xy B i in
          let c = split_longer x.before (w ++ xy_of B i) (word B x.by ++ x.after) s (x.from ∙ e ∙ sym (append_assoc w (xy_of B i) s)) (simp length-append (omega arith)) in
          go c.0 c.1 c.2 (head_move h.at (same_sub agree (omega arith)) (omega arith)) (guard_move g (same_sub agree (omega arith)) (omega arith))
        where
          go : (m : Word) → x.before ≡ (w ++ xy_of B i) ++ m → s ≡ m ++ (word B x.by ++ x.after) → Prefix B u₁ (length w) i → Guard B u₁ (length w) → Kept B fam w i s v
          go m a b f g₁ = ⊎_elim still_clean now_between (clean_or_between R f)
            where
              moved : (t : Word) → x.before ++ t ≡ w ++ (xy_of B i ++ (m ++ t))
              moved t = ap (◌++ t) a ∙ append_assoc (w ++ xy_of B i) m t ∙ append_assoc w (xy_of B i) (m ++ t)

              inside : Chain B fam s (m ++ (word B x.into ++ x.after))
              inside = chain_from b (chain_behind m (chain_turn x.kin x.after))

              still_clean : Clean B u₁ (length w) i → Kept B fam w i s v
              still_clean c =
                  let done = later w i (m ++ (word B x.into ++ x.after)) (sym x.to ∙ moved (word B x.into ++ x.after)) g₁ c in
                  record {
                    into = done.into;
                    rest = done.rest;
                    kin = done.kin;
                    product = done.product;
                    alone = done.alone;
                    track = track_after inside done.track;
                  }

              past : (d k : ℕ) → length w < d → d < length w + xylen B i → Prefix B u₁ d k → length x.before < d + xylen B k
              past d k y z n = by_cases (dec_lt (length x.before) (d + xylen B k)) (λ o. o)
                  (λ o. absurd (h.only d k y z (head_move n (same_sub (same_sym agree) (omega arith)) (let fw = was.fits in omega arith))))

              beyond : Kept B fam x.before x.into (z_of B x.into ++ x.after) v → Kept B fam w i s v
              beyond done =
                  record {
                    into = i;
                    rest = m ++ (xy_of B done.into ++ done.rest);
                    kin = kin_refl f.there;
                    product = done.product ∙ moved (xy_of B done.into ++ done.rest);
                    alone = λ d k y z. let o = done.alone d k y (omega arith) in absurd (omega arith);
                    track = quit refl (chain_join inside (chain_behind m (chain_from (sym (xy_z B x.into x.after)) (chain_of_track done.track))));
                  }

              now_between : (q : ℕ) × (j : ℕ) × (length w < q) × (q < length w + xylen B i) × Prefix B u₁ q j → Kept B fam w i s v
              now_between c = beyond
                  (later x.before x.into (z_of B x.into ++ x.after)
                  (sym x.to ∙ ap (x.before ++◌) (sym (xy_z B x.into x.after)))
                  (guard_further R g₁ f c.4 (c.2, c.3) now l past)
                  (clean_of_whole R now))

      pub kept_step : Kept B fam w i s v
      kept_step = by_cases (dec_lt (length x.before) (length w))
          (λ l. absurd (none_before R g h.at was l))
          (λ l. by_cases (ℕ_discrete (length x.before) (length w))
          kept_at
          (λ n. by_cases (dec_le (length w + xylen B i) (length x.before))
          kept_behind
          (λ o. absurd (h.only (length x.before) x.by (omega arith) (omega arith) (prefix_of_whole R was)))))

    -- Lemma 2
    pub kept : {u v : Word} → Chain B fam u v → (w : Word) (i : ℕ) (s : Word) → u ≡ w ++ (xy_of B i ++ s) → Guard B u (length w) → Clean B u (length w) i → Kept B fam w i s v
    kept {u} stop w i s e g h =
        record {
          into = i;
          rest = s;
          kin = kin_refl h.at.there;
          product = e;
          alone = λ d k y z. by_cases (dec_lt d (length w))
              (λ a. absurd (none_before R g h.at y a))
              (λ a. by_cases (ℕ_discrete d (length w)) (λ b. b) (λ b. absurd (h.only d k (omega arith) z (prefix_of_whole R y))));
          track = quit refl stop;
        }
    kept (step x c) w i s e g h = kept_step x (λ w' i' s' e' g' h'. kept c w' i' s' e' g' h') w i s e g h
