-- What no step can touch: document 003, Propositions 1 and 2, with guards in the place of overlap prefixes.
-- A place p of u is guarded if inside every XY that ends before p a head begins that ends before p too. It depends on the letters before p alone.
use Prim.Native.Nat.{ℕ, suc, ◌+◌, ◌≤◌, ◌<◌}
use mathlib.Core.List.{List}
use mathlib.Core.Path.{◌≡◌}
use mathlib.Core.Logic.{by_cases, ⊎_elim}
use native.Mathlib.Omega.{arith}
use native.Mathlib.Decide.{dec_le, dec_lt, ℕ_discrete}
use lib.ListN.{length}
use Rattle.words.specs.Words.{Word}
use Rattle.words.proofs.Segments.{Same, same_sym, same_sub}
use Rattle.overlap.specs.Cuts.{xlen, xylen}
use Rattle.congruence.proofs.Heads.{Facts, Head, Prefix, Whole, Clean, head_shorter, head_move, one_word, reach, behind, clear}
use Rattle.congruence.proofs.RowTests.{clean_or_between}

-- a head, X and one letter, begins inside XY of k at d and ends before p
pub record Marked (B : List Word) (u : Word) (d k p : ℕ) : Type 0 where
  pub place : ℕ
  pub by : ℕ
  pub after : d < place
  pub inside : place < d + xylen B k
  pub within : place + suc (xlen B by) ≤ p
  pub at : Head B u place by (suc (xlen B by))

pub record Guard (B : List Word) (u : Word) (p : ℕ) : Type 0 where
  pub mark : (d k : ℕ) → Prefix B u d k → d + xylen B k ≤ p → Marked B u d k p

module _ {B : List Word} where
  -- words that agree before p are guarded there together
  pub guard_move : {u v : Word} {p : ℕ} → Guard B u p → Same u 0 v 0 p → (p ≤ length u) × (p ≤ length v) → Guard B v p
  guard_move {u} {v} {p} g s h = record { mark = mark' }
    where
      mark' : (d k : ℕ) → Prefix B v d k → d + xylen B k ≤ p → Marked B v d k p
      mark' d k f l =
          let m = g.mark d k (head_move f (same_sub (same_sym s) (omega arith)) (omega arith)) l in
          let w = m.within in
          record {
            place = m.place;
            by = m.by;
            after = m.after;
            inside = m.inside;
            within = m.within;
            at = head_move m.at (same_sub s (omega arith)) (omega arith);
          }

  module _ (R : Facts B) where
    -- no relation word begins before a guarded place at which a head stands (Proposition 1)
    pub none_before : {u : Word} {p i n d k : ℕ} → Guard B u p → Head B u p i n → Whole B u d k → d < p → ⊥
    none_before {u} {p} {i} {n} {d} {k} g h w l = by_cases (dec_le (d + xylen B k) p)
        (λ a.
        let m = g.mark d k (head_shorter w (xylen B k) (let s = R.some k w.there in omega arith)) a in
        let c = clear R w m.at m.after in
        absurd (omega (arith, m.inside)))
        (λ a. let c = clear R w h l in absurd (omega arith))

    -- the first clean relation prefix is guarded (Proposition 2)
    pub guard_of_first : {u : Word} {p i : ℕ} → Clean B u p i → ((d k : ℕ) → d < p → Clean B u d k → ⊥) → Guard B u p
    guard_of_first {u} {p} {i} h first = record { mark = mark' }
      where
        mark' : (d k : ℕ) → Prefix B u d k → d + xylen B k ≤ p → Marked B u d k p
        mark' d k f l = ⊎_elim
            (λ c. absurd (first d k (let s = R.some k f.there in omega arith) c))
            (λ x.
            let b = behind R x.4 h.at (omega (arith, x.3)) in
            let s = R.some x.1 x.4.there in
            record {
              place = x.0;
              by = x.1;
              after = x.2;
              inside = x.3;
              within = omega arith;
              at = head_shorter x.4 (suc (xlen B x.1)) (omega arith);
            })
            (clean_or_between R f)

    -- a guard goes on to a relation word behind XY, where a prefix that begins inside XY reaches past the relation word's beginning
    pub guard_further : {u : Word} {p i q j b l : ℕ} → Guard B u p → Prefix B u p i → Prefix B u q j → (p < q) × (q < p + xylen B i) → Whole B u b l → p + xylen B i ≤ b
        → ((d k : ℕ) → p < d → d < p + xylen B i → Prefix B u d k → b < d + xylen B k) → Guard B u b
    guard_further {u} {p} {i} {q} {j} {b} {l} g f x c w h past = record { mark = mark' }
      where
        mark' : (d k : ℕ) → Prefix B u d k → d + xylen B k ≤ b → Marked B u d k b
        mark' d k e m = by_cases (dec_lt d p)
            (λ a. by_cases (dec_le (d + xylen B k) p)
            (λ y.
            let n = g.mark d k e y in
            record { place = n.place; by = n.by; after = n.after; inside = n.inside; within = let z = n.within in omega arith; at = n.at })
            (λ y.
            let s = R.some i f.there in
            record { place = p; by = i; after = a; inside = omega arith; within = omega arith; at = head_shorter f (suc (xlen B i)) (omega arith) }))
            (λ a. by_cases (ℕ_discrete d p)
            (λ y.
            let o = behind R x w (omega arith) in
            let s = R.some j x.there in
            let k≡i : k ≡ i = one_word R (rw y at e) f in
            record {
              place = q;
              by = j;
              after = omega arith;
              inside = rw k≡i (omega arith);
              within = omega arith;
              at = head_shorter x (suc (xlen B j)) (omega arith);
            })
            (λ y. by_cases (dec_lt d (p + xylen B i))
            (λ z. let o = past d k (omega arith) z e in absurd (omega arith))
            (λ z.
            let o = past q j c.0 c.1 x in
            let r = reach R x e (omega arith) in
            let s = R.some k e.there in
            absurd (omega arith))))
