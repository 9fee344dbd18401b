-- The shape of the words of a comparison: an end of a Z, or nothing, before an end of the word that it began with. It holds at the start and is kept by
-- every round, and every round makes both words lighter (document 003, Lemma 6).
use Prim.Native.Nat.{ℕ, zero, suc, ◌+◌, ◌-◌, ◌*◌, ◌<◌}
use mathlib.Core.Bool.{true}
use mathlib.Core.Logic.{by_cases, ⊎_elim, ◌⊎◌, inl, inr}
use mathlib.Core.List.{List, [], ◌∷◌, ◌++◌}
use mathlib.Core.Path.{◌≡◌, refl, sym, ap, ◌∙◌, subst}
use native.Mathlib.Omega.{arith}
use native.Mathlib.Nat.{mul-le-mul_left, zero-sub}
use native.Mathlib.Decide.{ℕ_discrete}
use lib.ListN.{length, drop, length-append, length-drop}
use lib.Seq.{drop-nil, drop-drop, drop-append-add}
use Rattle.words.specs.Words.{Word, is_prefix}
use Rattle.overlap.specs.Cuts.{xy_of, longest_suffix_piece}
use Rattle.congruence.specs.Rows.{round}
use Rattle.congruence.specs.Rows.Next.{go}
use Rattle.congruence.specs.Theorem.{EndOfTail, TailThenRest}
use Rattle.congruence.specs.Theorem.EndOfTail.{nothing}
use Rattle.congruence.proofs.Heads.{Facts}
use Rattle.congruence.proofs.ShapeNoPrefix.{tail_drop, no_prefix_tail, tail_at_most, prefix_past_tail}
use Rattle.congruence.proofs.ShapeRows.{Recut, Moves, round_moves}
use Rattle.congruence.proofs.ShapeRows.Moves.{drops, cuts}

-- what falls in every round: the letters of the tail, and k + 1 for each letter of the rest
abbrev pub weight : (B : List Word) (u₀ u : Word) → TailThenRest B u₀ u → ℕ
weight B u₀ u t = length t.tail + (longest_suffix_piece B + 1) * (length u₀ - t.from)

-- the words of a comparison of u₀ and v₀; the mark is not empty only while both tails are empty
pub record ComparisonWords (B : List Word) (u₀ v₀ u v p : Word) : Type 0 where
  pub first : TailThenRest B u₀ u
  pub second : TailThenRest B v₀ v
  pub mark : EndOfTail B p
  pub alone : (p ≡ []) ⊎ ((first.tail ≡ []) × (second.tail ≡ []))

-- the word itself, to begin with
unfoldable pub tailed_whole : (B : List Word) (u : Word) → TailThenRest B u u
tailed_whole B u = record { tail = []; from = 0; ends = nothing refl; within = omega arith; made = refl }

unfoldable pub held_start : (B : List Word) (u v : Word) → ComparisonWords B u v u v []
held_start B u v = record { first = tailed_whole B u; second = tailed_whole B v; mark = nothing refl; alone = inl refl }

-- the tail and the rest are as long as they should be
pub tailed_length : (B : List Word) (u₀ u : Word) (t : TailThenRest B u₀ u) → length u ≡ length t.tail + (length u₀ - t.from)
tailed_length B u₀ u t = ap length t.made ∙ rw (length-append, length-drop)

-- fewer letters of the rest pay for any tail
scale : (k a b : ℕ) → a < b → (k + 1) * a + k < (k + 1) * b
scale k a b h = let m = mul-le-mul_left {m = suc a} {n = b} (k + 1) (omega arith) in omega arith

-- a letter less, of the tail if it has one, else of the rest
weigh_drop : (k a l f : ℕ) → 0 < a + (l - f) → a - 1 + (k + 1) * (l - (f + (1 - a))) < a + (k + 1) * (l - f)
weigh_drop k a l f h = by_cases (ℕ_discrete a 0)
    (λ e. let m = scale k (l - (f + (1 - a))) (l - f) (omega arith) in omega arith)
    (λ e. let m = ap (λ n. (k + 1) * (l - n)) {x = f + (1 - a)} {y = f} (omega arith) in omega arith)

-- a word of the same comparison that is lighter
pub record Lighter (B : List Word) (u₀ u u' : Word) (t : TailThenRest B u₀ u) (z : Word) : Type 0 where
  pub next : TailThenRest B u₀ u'
  pub less : weight B u₀ u' next < weight B u₀ u t
  pub before : next.tail ≡ z

-- letters dropped from two words in a row
drop_both : (n : ℕ) (a r : Word) → drop n (a ++ r) ≡ drop n a ++ drop (n - length a) r
drop_both zero a r = rw (zero-sub (length a))
drop_both (suc n) [] r = ap (λ m. drop m r) {x = suc n} {y = suc n - 0} (omega arith)
drop_both (suc n) (x ∷ a) r = drop_both n a r ∙ ap (λ m. drop n a ++ drop m r) {x = n - length a} {y = suc n - suc (length a)} (omega arith)

module _ (B : List Word) (u₀ u u' : Word) (t : TailThenRest B u₀ u) where
  -- a letter is dropped
  pub drop_lighter : 0 < length u → u' ≡ drop 1 u → Lighter B u₀ u u' t (drop 1 t.tail)
  drop_lighter h e =
      let l = tailed_length B u₀ u t in
      let d = length-drop 1 t.tail in
      let w = t.within in
      let f = t.from + (1 - length t.tail) in
      record {
        next =
            record {
              tail = drop 1 t.tail;
              from = f;
              ends = tail_drop B t.tail 1 t.ends;
              within = omega arith;
              made = e ∙ ap (drop 1) t.made ∙ drop_both 1 t.tail (drop t.from u₀) ∙ ap (λ r. drop 1 t.tail ++ r) (drop-drop (1 - length t.tail) t.from u₀);
            };
        less = let g = weigh_drop (longest_suffix_piece B) (length t.tail) (length u₀) t.from (omega arith) in omega arith;
        before = refl;
      }

  -- an X and Y, and perhaps more, is cut and an end of a Z put before the rest
  pub cut_lighter : Facts B → {z : Word} → Recut B u z u' → Lighter B u₀ u u' t z
  cut_lighter c {z} r =
      let l = tailed_length B u₀ u t in
      let w = t.within in
      let n = r.enough in
      let f = r.fits in
      let g : is_prefix (xy_of B r.by) (t.tail ++ drop t.from u₀) ≡ true = subst (λ w. is_prefix (xy_of B r.by) w ≡ true) t.made r.begins in
      let p = prefix_past_tail B c t.tail (drop t.from u₀) r.by (no_prefix_tail B c t.tail t.ends) r.there g in
      let m = r.size - length t.tail in
      let e : r.size ≡ length t.tail + m = omega arith in
      record {
        next =
            record {
              tail = z;
              from = t.from + m;
              ends = r.tail;
              within = omega arith;
              made = r.made ∙ ap (λ r. z ++ r) (ap (λ n. drop n u) e ∙ ap (drop (length t.tail + m)) t.made ∙ drop-append-add t.tail (drop t.from u₀) m ∙ drop-drop m t.from u₀);
            };
        less =
            let k = tail_at_most B z r.tail in
            let q = scale (longest_suffix_piece B) (length u₀ - (t.from + m)) (length u₀ - t.from) (omega arith) in
            omega arith;
        before = refl;
      }

-- what every round keeps, and both words lighter
pub record Lightened (B : List Word) (u₀ v₀ u v p u' v' p' : Word) (h : ComparisonWords B u₀ v₀ u v p) : Type 0 where
  pub next : ComparisonWords B u₀ v₀ u' v' p'
  pub first : weight B u₀ u' next.first < weight B u₀ u h.first
  pub second : weight B v₀ v' next.second < weight B v₀ v h.second

module _ (B : List Word) (family : ℕ → ℕ) (c : Facts B) (u₀ v₀ u v p u' v' p' : Word) (h : ComparisonWords B u₀ v₀ u v p) where
  moves_lighten : Moves B u v p u' v' p' → Lightened B u₀ v₀ u v p u' v' p' h
  moves_lighten (drops hu hv eu ev ep) =
      let a = drop_lighter B u₀ u u' h.first hu eu in
      let b = drop_lighter B v₀ v v' h.second hv ev in
      record {
        next =
            record {
              first = a.next;
              second = b.next;
              mark = subst (EndOfTail B) (sym ep) (tail_drop B p 1 h.mark);
              alone =
                  ⊎_elim (λ e. inl (ep ∙ rw e (drop-nil 1))) (λ e. inr (a.before ∙ rw e.0 (drop-nil 1), b.before ∙ rw e.1 (drop-nil 1))) h.alone;
            };
        first = a.less;
        second = b.less;
      }
  moves_lighten (cuts r s m k) =
      let a = cut_lighter B u₀ u u' h.first c r in
      let b = cut_lighter B v₀ v v' h.second c s in
      record {
        next = record { first = a.next; second = b.next; mark = m; alone = ⊎_elim (λ e. inl e) (λ e. inr (a.before ∙ e.0, b.before ∙ e.1)) k };
        first = a.less;
        second = b.less;
      }

  pub round_lightens : round B family u v p ≡ go u' v' p' → Lightened B u₀ v₀ u v p u' v' p' h
  round_lightens r = moves_lighten (round_moves B family c r)

  -- the shape is kept by every round
  pub held_round : round B family u v p ≡ go u' v' p' → ComparisonWords B u₀ v₀ u' v' p'
  held_round r = (round_lightens r).next
