-- A chain from a clean XY in one normal form: document 003, Corollary 4 and the sequences in the proof of Lemma 3, for families of any size.
use Prim.Native.Nat.{ℕ, ◌<◌}
use mathlib.Core.List.{List, [], ◌++◌, append_cancel_left}
use mathlib.Core.Path.{◌≡◌, refl, sym, ap, subst, subst₂}
use mathlib.Core.Logic.{⊎_elim, ◌⊎◌, inl, inr}
use native.Mathlib.Omega.{arith}
use lib.ListN.{length}
use Rattle.words.specs.Words.{Word}
use Rattle.overlap.specs.Pieces.{word}
use Rattle.overlap.specs.Cuts.{xy_of, z_of}
use Rattle.congruence.proofs.Heads.{Facts, Prefix, Clean, one_word}
use Rattle.congruence.proofs.Places.{split_same, xy_z, prefix_in_product}
use Rattle.congruence.proofs.Chains.{Kin, Chain, kin_refl, kin_sym, kin_trans, chain_join, chain_sym, chain_behind, chain_from, chain_to, chain_turn}
use Rattle.congruence.proofs.Chains.Chain.{stop}
use Rattle.congruence.proofs.Guards.{Guard}
use Rattle.congruence.proofs.Tracks.{Track, kept}
use Rattle.congruence.proofs.Tracks.Track.{quit, turn}
use Rattle.congruence.proofs.Strips.{strip_no_prefix}
use Rattle.congruence.proofs.Activity.{Hangs, inner_z, hangs_or_no_prefix, swap_prefixes, hangs_of_unlike}

-- behind Z of some member of i's family t and t' are congruent
pub record Meets (B : List Word) (fam : ℕ → ℕ) (i : ℕ) (t t' : Word) : Type 0 where
  pub by : ℕ
  pub kin : Kin B fam i by
  pub chain : Chain B fam (z_of B by ++ t) (z_of B by ++ t')

-- XY of i and s become XY of j and t by turns: s becomes Z left, left meets right, and Z of j with right becomes t
pub record Turned (B : List Word) (fam : ℕ → ℕ) (i : ℕ) (s : Word) (j : ℕ) (t : Word) : Type 0 where
  pub left : Word
  pub right : Word
  pub from : Chain B fam s (z_of B i ++ left)
  pub meets : Meets B fam i left right
  pub to : Chain B fam (z_of B j ++ right) t

-- the same by one turn
pub record Once (B : List Word) (fam : ℕ → ℕ) (i : ℕ) (s : Word) (j : ℕ) (t : Word) : Type 0 where
  pub rest : Word
  pub from : Chain B fam s (z_of B i ++ rest)
  pub to : Chain B fam (z_of B j ++ rest) t

-- no turn, or turns
abbrev pub Plain : List Word → (ℕ → ℕ) → ℕ → Word → ℕ → Word → Type 0
Plain B fam i s j t = (i ≡ j) × Chain B fam s t

-- what is congruent to XY of i and s, XY clean: XY of a member, and how the rest came about
pub record Reached (B : List Word) (fam : ℕ → ℕ) (i : ℕ) (s v : Word) : Type 0 where
  pub into : ℕ
  pub rest : Word
  pub kin : Kin B fam i into
  pub product : v ≡ xy_of B into ++ rest
  pub how : Plain B fam i s into rest ⊎ Turned B fam i s into rest

-- the word begins otherwise
abbrev pub Unlike : Word → Word → Type 0
Unlike z s = (r : Word) → s ≡ z ++ r → ⊥

module _ {B : List Word} (R : Facts B) where
  -- XY in front names its relation word and the rest
  pub prefix_fixed : (i j : ℕ) (s t : Word) → i < length B → j < length B → xy_of B i ++ s ≡ xy_of B j ++ t → (i ≡ j) × (s ≡ t)
  prefix_fixed i j s t h l e =
      let n : i ≡ j = one_word R (prefix_in_product R [] s i h) (subst (λ (w : Word). Prefix B w 0 j) (sym e) (prefix_in_product R [] t j l)) in
      (n, (split_same (xy_of B i) (xy_of B j) s t e (ap (λ (m : ℕ). length (xy_of B m)) n)).1)

  -- the beginning of a word is guarded
  guard_zero : (u : Word) → Guard B u 0
  guard_zero u = record { mark = λ d k f l. let s = R.some k f.there in absurd (omega arith) }

module _ {B : List Word} (R : Facts B) {fam : ℕ → ℕ} where
  pub meets_refl : {i : ℕ} → i < length B → (t : Word) → Meets B fam i t t
  meets_refl {i} h t = record { by = i; kin = kin_refl h; chain = stop }

  pub meets_sym : {i : ℕ} {t t' : Word} → Meets B fam i t t' → Meets B fam i t' t
  meets_sym m = record { by = m.by; kin = m.kin; chain = chain_sym m.chain }

  pub meets_kin : {i j : ℕ} {t t' : Word} → Kin B fam i j → Meets B fam j t t' → Meets B fam i t t'
  meets_kin k m = record { by = m.by; kin = kin_trans k m.kin; chain = m.chain }

  -- the member may be any for which t is active
  pub chain_of_active : {i c : ℕ} {t t' : Word} {j k : ℕ} → Meets B fam i t t' → Kin B fam i c → Hangs B (z_of B c) t j k → Chain B fam (z_of B c ++ t) (z_of B c ++ t')
  chain_of_active {i} {c} {t} {t'} m k h = swap_prefixes R t' (inner_z R m.by m.kin.there) (inner_z R c k.there) h m.chain

  -- where t is active for no member, t and t' are congruent themselves
  pub chain_of_inactive : {i : ℕ} {t t' : Word} → Meets B fam i t t' → ((c : ℕ) → Kin B fam i c → (d j : ℕ) → d < length (z_of B c) → Prefix B (z_of B c ++ t) d j → ⊥) → Chain B fam t t'
  chain_of_inactive {i} {t} {t'} m q =
      let s = strip_no_prefix R (z_of B m.by) t (q m.by m.kin) m.chain in
      chain_to s.chain (append_cancel_left (z_of B m.by) s.rest t' (sym s.product))

  -- Corollary 4
  pub meets_trans : {i : ℕ} {t t' t'' : Word} → Meets B fam i t t' → Meets B fam i t' t'' → Meets B fam i t t''
  meets_trans {i} {t} {t'} {t''} m n = ⊎_elim
      (λ h.
      record {
        by = n.by;
        kin = n.kin;
        chain = chain_join (chain_sym (chain_of_active (meets_sym m) n.kin h.2)) n.chain;
      })
      (λ q.
      let s = strip_no_prefix R (z_of B n.by) t' q n.chain in
      let c = chain_to s.chain (append_cancel_left (z_of B n.by) s.rest t'' (sym s.product)) in
      record { by = m.by; kin = m.kin; chain = chain_join m.chain (chain_behind (z_of B m.by) c) })
      (hangs_or_no_prefix R (inner_z R n.by n.kin.there) t')

  -- every track is plain or turned
  pub plain_or_turned : {j : ℕ} {t : Word} {i : ℕ} {s : Word} → Track B fam j t i s → Plain B fam i s j t ⊎ Turned B fam i s j t
  plain_or_turned (quit e c) = inl (e, c)
  plain_or_turned {j} {t} {i} {s} (turn l r c k m) = ⊎_elim
      (λ p. inr (record { left = r; right = r; from = c; meets = meets_refl k.here r; to = chain_from (ap (λ (n : ℕ). z_of B n ++ r) (sym p.0)) p.1 }))
      (λ p.
      inr (record {
        left = r;
        right = p.right;
        from = c;
        meets = meets_trans (record { by = l; kin = k; chain = p.from }) (meets_kin k p.meets);
        to = p.to;
      }))
      (plain_or_turned m)

  -- one turn is enough where an end does not begin with its Z
  pub once_of_turned : {i j : ℕ} {s t : Word} → Kin B fam i j → Turned B fam i s j t → Unlike (z_of B i) s ⊎ Unlike (z_of B j) t → Once B fam i s j t
  once_of_turned {i} {j} {s} {t} k x = ⊎_elim
      (λ u.
      let h = hangs_of_unlike R (inner_z R i k.here) (chain_sym x.from) u in
      record { rest = x.right; from = chain_join x.from (chain_of_active x.meets (kin_refl k.here) h.2); to = x.to })
      (λ u.
      let h = hangs_of_unlike R (inner_z R j k.there) x.to u in
      record { rest = x.left; from = x.from; to = chain_join (chain_sym (chain_of_active (meets_sym x.meets) k h.2)) x.to })

  -- and the other way: each form is a chain
  pub chain_of_meets : {i j : ℕ} {s t : Word} → Kin B fam i j → Meets B fam i s t → Chain B fam (word B i ++ s) (word B j ++ t)
  chain_of_meets {i} {j} {s} {t} k m =
      let c : Chain B fam (word B m.by ++ s) (word B m.by ++ t) = chain_from (sym (xy_z B m.by s)) (chain_to (chain_behind (xy_of B m.by) m.chain) (xy_z B m.by t)) in
      chain_join (chain_turn m.kin s) (chain_join c (chain_turn (kin_trans (kin_sym m.kin) k) t))

  pub chain_of_turned : {i j : ℕ} {s t : Word} → Kin B fam i j → Turned B fam i s j t → Chain B fam (xy_of B i ++ s) (xy_of B j ++ t)
  chain_of_turned {i} {j} {s} {t} k x =
      chain_join (chain_to (chain_behind (xy_of B i) x.from) (xy_z B i x.left))
      (chain_join (chain_of_meets k x.meets) (chain_from (sym (xy_z B j x.right)) (chain_behind (xy_of B j) x.to)))

  pub chain_of_once : {i j : ℕ} {s t : Word} → Kin B fam i j → Once B fam i s j t → Chain B fam (xy_of B i ++ s) (xy_of B j ++ t)
  chain_of_once k o = chain_of_turned k (record { left = o.rest; right = o.rest; from = o.from; meets = meets_refl k.here o.rest; to = o.to })

  -- document 003, Lemma 2 and the beginning of the proof of Lemma 3
  pub reached : {i : ℕ} {s v : Word} → Clean B (xy_of B i ++ s) 0 i → Chain B fam (xy_of B i ++ s) v → Reached B fam i s v
  reached {i} {s} {v} h c =
      let k = kept R c [] i s refl (guard_zero R (xy_of B i ++ s)) h in
      record { into = k.into; rest = k.rest; kin = k.kin; product = k.product; how = plain_or_turned k.track }

  pub reached_prefix : {i j : ℕ} {s t : Word} → Clean B (xy_of B i ++ s) 0 i → j < length B → Chain B fam (xy_of B i ++ s) (xy_of B j ++ t)
      → Kin B fam i j × (Plain B fam i s j t ⊎ Turned B fam i s j t)
  reached_prefix {i} {j} {s} {t} h l c =
      let r = reached h c in
      let e = prefix_fixed R j r.into t r.rest l r.kin.there r.product in (
        subst (Kin B fam i) (sym e.0) r.kin,
        subst₂ (λ (n : ℕ) (w : Word). Plain B fam i s n w ⊎ Turned B fam i s n w) (sym e.0) (sym e.1) r.how,
      )
