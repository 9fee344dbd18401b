-- What follows XY of a member in the words that are congruent to a clean XY and s: for each way in which the round goes on, a part that is fixed and a question
-- that is left (document 003, Lemmas 2 to 4, for families of any size).
use Prim.Native.Nat.{ℕ, ◌+◌, ◌≤◌, ◌<◌}
use mathlib.Core.List.{List, [], ◌++◌, append_assoc, append_cancel_left}
use mathlib.Core.Logic.{by_cases, ⊎_elim, inl}
use mathlib.Core.Path.{◌≡◌, refl, sym, ap, ◌∙◌, subst}
use native.Mathlib.Omega.{arith}
use native.Mathlib.Decide.{dec_le}
use lib.ListN.{length, drop, length-append}
use lib.Seq.{drop_at}
use Rattle.words.specs.Words.{Word, is_prefix}
use Rattle.words.proofs.Tests.{true_or_false}
use Rattle.words.proofs.Prefixes.{prefix_split}
use Rattle.words.proofs.CommonSuffixes.{LongestSuffix}
use Rattle.overlap.specs.Cuts.{xy_of, z_of}
use Rattle.congruence.proofs.Heads.{Facts, Prefix, Clean}
use Rattle.congruence.proofs.Places.{xy_z, prefix_in_product, product_of_prefix}
use Rattle.congruence.proofs.Chains.{Kin, Chain, kin_refl, kin_sym, chain_join, chain_sym, chain_behind, chain_from, chain_to, chain_turn}
use Rattle.congruence.proofs.Chains.Chain.{stop}
use Rattle.congruence.proofs.Guards.{Guard, guard_of_first}
use Rattle.congruence.proofs.Tracks.{Kept, kept}
use Rattle.congruence.proofs.Strips.{First, first_below, strip, strip_no_prefix}
use Rattle.congruence.proofs.Activity.{InnerFactor, Hangs, inner_z, inner_rest, hangs_of_prefix, hangs_one, hangs_or_no_prefix, hangs_of_unlike}
use Rattle.congruence.proofs.Merges.{Meets, Unlike, meets_sym, meets_trans, chain_of_active, chain_of_inactive, chain_of_meets, chain_of_once, reached_prefix}
use Rattle.congruence.proofs.CleanPrefixes.{PossiblePrefix, clean_whole, rests_of_same, rests_of_left, parted_of_unlikes}
use Rattle.congruence.proofs.RowsRight.{unlike_of_test}

-- no XY begins in z t before the end of z
abbrev pub Inactive : List Word → Word → Word → Type 0
Inactive B z t = (d q : ℕ) → d < length z → Prefix B (z ++ t) d q → ⊥

-- XY of j and t are congruent to XY of i and s exactly when t is c and then a word r with p r congruent to u
pub record Continues (B : List Word) (fam : ℕ → ℕ) (i : ℕ) (s : Word) (j : ℕ) (c p u : Word) : Type 0 where
  pub to : (t : Word) → Chain B fam (xy_of B i ++ s) (xy_of B j ++ t) → (r : Word) × (t ≡ c ++ r) × Chain B fam (p ++ r) u
  pub from : (r : Word) → Chain B fam (p ++ r) u → Chain B fam (xy_of B i ++ s) (xy_of B j ++ (c ++ r))

module _ {B : List Word} (R : Facts B) {fam : ℕ → ℕ} where
  -- where Z w follows XY of i: what follows XY of j comes from Z w, or from Z right with a word that w meets
  behind_whole : {i j : ℕ} (w t : Word) → Kin B fam i j → Chain B fam (xy_of B i ++ (z_of B i ++ w)) (xy_of B j ++ t)
      → (right : Word) × Meets B fam j w right × Chain B fam (z_of B j ++ right) t
  behind_whole {i} {j} w t k c =
      let d : Chain B fam (xy_of B j ++ (z_of B j ++ w)) (xy_of B j ++ t) = chain_from (xy_z B j w) (chain_join (chain_turn (kin_sym k) w) (chain_from (sym (xy_z B i w)) c)) in
      ⊎_elim
      (λ p. (w, record { by = j; kin = kin_refl k.there; chain = stop }, p.1))
      (λ x. (x.right, meets_trans R (record { by = j; kin = kin_refl k.there; chain = x.from }) x.meets, x.to))
      (reached_prefix R (clean_whole R j w k.there) k.there d).1

  -- the other way: a word that w meets
  whole_of_meets : {i j : ℕ} (w r : Word) → Kin B fam i j → Meets B fam i w r → Chain B fam (xy_of B i ++ (z_of B i ++ w)) (xy_of B j ++ (z_of B j ++ r))
  whole_of_meets {i} {j} w r k m = chain_from (xy_z B i w) (chain_to (chain_of_meets R k m) (sym (xy_z B j r)))

  -- u = XYZ w, and w is active for Z of j: what follows XY of j is congruent to Z w
  pub continues_active : {i j : ℕ} (w : Word) {q n : ℕ} → Kin B fam i j → Hangs B (z_of B j) w q n → Continues B fam i (z_of B i ++ w) j [] [] (z_of B j ++ w)
  continues_active {i} {j} w k h =
      record {
        to = λ t c.
            let x = behind_whole w t k c in
            (t, refl, chain_sym (chain_join (chain_of_active R x.1 (kin_refl k.there) h) x.2));
        from = λ r d.
            chain_from (xy_z B i w) (chain_join (chain_turn k w) (chain_from (sym (xy_z B j w)) (chain_behind (xy_of B j) (chain_sym d))));
      }

  -- u = XYZ w, and w is not active for Z of j: Z stands behind XY of j, and what follows it meets w, which a member c tells
  pub continues_inactive : {i j c : ℕ} (w : Word) → Kin B fam i j → Kin B fam i c → Inactive B (z_of B j) w
      → ((r : Word) → Meets B fam i w r → Chain B fam (z_of B c ++ w) (z_of B c ++ r)) → Continues B fam i (z_of B i ++ w) j (z_of B j) (z_of B c) (z_of B c ++ w)
  continues_inactive {i} {j} {c} w k m none carry =
      record {
        to = λ t d.
            let x = behind_whole w t k d in
            ⊎_elim
            (λ h. plain t (chain_join (chain_sym (chain_of_active R (meets_sym R x.1) (kin_refl k.there) h.2)) x.2))
            (λ q. let s = strip_no_prefix R (z_of B j) x.0 q x.2 in (s.rest, s.product, chain_sym (carry s.rest (met x.0 s.rest x.1 s.chain))))
            (hangs_or_no_prefix R (inner_z R j k.there) x.0);
        from = λ r d. whole_of_meets w r k (record { by = c; kin = m; chain = chain_sym d });
      }
    where
      plain : (t : Word) → Chain B fam (z_of B j ++ w) t → (r : Word) × (t ≡ z_of B j ++ r) × Chain B fam (z_of B c ++ r) (z_of B c ++ w)
      plain t d = let s = strip_no_prefix R (z_of B j) w none d in (s.rest, s.product, chain_behind (z_of B c) (chain_sym s.chain))

      met : (x y : Word) → Meets B fam j w x → Chain B fam x y → Meets B fam i w y
      met x y n d = record { by = n.by; kin = record { here = k.here; there = n.kin.there; same = k.same ∙ n.kin.same }; chain = chain_join n.chain (chain_behind (z_of B n.by) d) }

  -- the carrier: a member for whose Z w is active, or any where there is none
  pub carry_active : {i c : ℕ} (w : Word) {q n : ℕ} → Kin B fam i c → Hangs B (z_of B c) w q n → (r : Word) → Meets B fam i w r → Chain B fam (z_of B c ++ w) (z_of B c ++ r)
  carry_active w k h r m = chain_of_active R m k h

  pub carry_inactive : {i : ℕ} (c : ℕ) (w : Word) → ((l : ℕ) → Kin B fam i l → Inactive B (z_of B l) w) → (r : Word) → Meets B fam i w r → Chain B fam (z_of B c ++ w) (z_of B c ++ r)
  carry_inactive c w none r m = chain_behind (z_of B c) (chain_of_inactive R m none)

  -- XY of i itself, and s does not begin with Z: what follows is congruent to s
  pub continues_own : {i : ℕ} (s : Word) → Clean B (xy_of B i ++ s) 0 i → Unlike (z_of B i) s → Continues B fam i s i [] [] s
  continues_own {i} s h u =
      record { to = λ t c. (t, refl, chain_sym ((rests_of_same R s t h (inl u)).0 c)); from = λ r d. (rests_of_same R s r h (inl u)).1 (chain_sym d) }

  -- another member: whether t begins with its Z decides between Lemma 3's conditions (4) and (6)
  module _ {i j : ℕ} (s : Word) {e f z : Word} (h : Clean B (xy_of B i ++ s) 0 i) (k : Kin B fam i j) (n : i ≡ j → ⊥) (u : Unlike (z_of B i) s)
      (m : LongestSuffix (z_of B i) (z_of B j) e f z) where
    -- the words with all of relation word j in front
    left_of_whole : (t r : Word) → t ≡ z_of B j ++ r → Chain B fam (xy_of B i ++ s) (xy_of B j ++ t) → Chain B fam s (z_of B i ++ r)
    left_of_whole t r q c = (rests_of_left R s r h k n u).0 (chain_to c (ap (xy_of B j ++◌) q ∙ xy_z B j r))

    -- where s is e and a rest before which no clean XY begins, f stays behind XY of j and what follows is congruent to the rest
    module _ (rest : Word) (q : s ≡ e ++ rest) (none : (d l : ℕ) → d < length e → Clean B (e ++ rest) d l → ⊥) (p : PossiblePrefix B fam (z_of B i) s) where
      without : (r : Word) → Chain B fam s (z_of B i ++ r) → Chain B fam rest (z ++ r)
      without r c =
          let y = strip R e rest none (chain_from (sym q) c) in
          chain_to y.chain (append_cancel_left e y.rest (z ++ r) (sym y.product ∙ ap (◌++ r) m.left ∙ append_assoc e z r))

      pub continues_unparted : Continues B fam i s j f [] rest
      continues_unparted =
          record {
            to = λ t c. ⊎_elim
                (λ b.
                let o : t ≡ z_of B j ++ drop (length (z_of B j)) t = sym (prefix_split (z_of B j) t b) in
                let r = drop (length (z_of B j)) t in
                (z ++ r, o ∙ ap (◌++ r) m.right ∙ append_assoc f z r, chain_sym (without r (left_of_whole t r o c))))
                (λ b.
                let x = (parted_of_unlikes R s t h k n u (unlike_of_test (z_of B j) t b) m).0 c in
                (x.right, x.split_right, chain_from_right x.left x.right x.split_left x.chain))
                (true_or_false (is_prefix (z_of B j) t));
            from = λ r d. chain_of_once R k (record {
              rest = p.rest;
              from = chain_sym p.chain;
              to = chain_from (ap (◌++ p.rest) m.right ∙ append_assoc f z p.rest) (chain_behind f (chain_join (chain_sym (without p.rest (chain_sym p.chain))) (chain_sym d)));
            });
          }
        where
          chain_from_right : (left right : Word) → s ≡ e ++ left → Chain B fam left right → Chain B fam right rest
          chain_from_right left right o c = chain_sym (chain_from (append_cancel_left e rest left (sym q ∙ o)) c)

    -- e and z make s, and z is possible behind e: then no clean XY begins in s before the end of e
    no_clean_of_possible : (rest : Word) → s ≡ e ++ rest → PossiblePrefix B fam z rest → (d l : ℕ) → d < length e → Clean B s d l → ⊥
    no_clean_of_possible rest q p d l a c = ⊎_elim from_first (λ none. none d l (omega arith) c) (first_below R s (d + 1))
      where
        chain : Chain B fam (z_of B i ++ p.rest) s
        chain = chain_from (ap (◌++ p.rest) m.left ∙ append_assoc e z p.rest) (chain_to (chain_behind e p.chain) (sym q))

        long : length (z_of B i) ≡ length e + length z
        long = ap length m.left ∙ length-append e z

        unlike_z : Unlike z rest
        unlike_z r o = u r (q ∙ ap (e ++◌) o ∙ sym (append_assoc e z r) ∙ ap (◌++ r) (sym m.left))

        inner : InnerFactor B z
        inner = subst (InnerFactor B) (ap (drop (length e)) m.left ∙ drop_at e z (length e) refl) (inner_rest (length e) (inner_z R i k.here))

        from_first : First B s → ⊥
        from_first g = go (product_of_prefix g.is_clean.at)
          where
            early : g.place ≤ d
            early = by_cases (dec_le g.place d) (λ y. y) (λ y. absurd (g.before d l (omega arith) c))

            go : (w : Word) × (r : Word) × (s ≡ w ++ (xy_of B g.by ++ r)) × (length w ≡ g.place) → ⊥
            go x = ended x.0 x.3
                (kept R (chain_sym chain) x.0 g.by x.1 x.2
                (subst (Guard B s) (sym x.3) (guard_of_first R g.is_clean g.before))
                (subst (λ (y : ℕ). Clean B s y g.by) (sym x.3) g.is_clean))
              where
                ended : (w : Word) → length w ≡ g.place → {r : Word} → Kept B fam w g.by r (z_of B i ++ p.rest) → ⊥
                ended w o y =
                    let at : Prefix B (z_of B i ++ p.rest) (length w) y.into = subst (λ (v : Word). Prefix B v (length w) y.into) (sym y.product) (prefix_in_product R w y.rest y.into y.kin.there) in
                    let hung = hangs_of_prefix R (inner_z R i k.here) at (omega (arith, long, early, o, a)) in
                    let over = hangs_of_unlike R inner p.chain unlike_z in
                    let one = hangs_one R hung over.2 in
                    let part = over.2.part in
                    omega (arith, one.1, early, long, part, o, a)

    -- otherwise Z of j stands behind XY of j, and Z of i with what follows is congruent to s
    pub continues_parted : ((rest : Word) → s ≡ e ++ rest → ((d l : ℕ) → d < length e → Clean B s d l → ⊥) → ⊥) → Continues B fam i s j (z_of B j) (z_of B i) s
    continues_parted not =
        record {
          to = λ t c. ⊎_elim
              (λ b.
              let o : t ≡ z_of B j ++ drop (length (z_of B j)) t = sym (prefix_split (z_of B j) t b) in
              (drop (length (z_of B j)) t, o, chain_sym (left_of_whole t (drop (length (z_of B j)) t) o c)))
              (λ b.
              let x = (parted_of_unlikes R s t h k n u (unlike_of_test (z_of B j) t b) m).0 c in
              absurd (not x.left x.split_left (no_clean_of_possible x.left x.split_left x.possible)))
              (true_or_false (is_prefix (z_of B j) t));
          from = λ r d. chain_to ((rests_of_left R s r h k n u).1 (chain_sym d)) (sym (xy_z B j r));
        }
