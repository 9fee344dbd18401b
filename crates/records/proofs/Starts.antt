-- The walk from record to record that finds where the record of a relation begins.
use Prim.Native.Nat.{ℕ, suc, ◌+◌, ◌^◌, ◌≤◌, ◌<◌}
use mathlib.Core.List.{List}
use mathlib.Core.Path.{◌≡◌, refl, ap, ◌∙◌}
use native.Mathlib.Numerals.{add-one}
use native.Mathlib.Omega.{arith}
use borrow.Author.Rules.{rules}
use lib.ListN.{length}
use mir.Syntax.{w64}
use mir.Val.{Fits}
use Rattle.format.specs.Book.{field, relation_start}
use Rattle.records.specs.Reads.{Field, Starts}

-- the walk has come to the record of relation i
pub record Walked (book : List ℕ) (k at i : ℕ) : Type 0 where
  pub within : i ≤ k
  pub here : at ≡ relation_start book i

module _ (book : List ℕ) (k : ℕ) where
  -- it begins behind the head
  pub walked_start : Walked book k 5 0
  unfolding relation_start
  walked_start = record { within = omega arith; here = refl }

  module _ (at i : ℕ) (w : Walked book k at i) where
    -- it ends at the record of relation k
    pub walked_end : k ≤ i → at ≡ relation_start book k
    walked_end h = let e : i ≡ k = omega arith in w.here ∙ ap (relation_start book) e

    module _ (s : Starts book k) (h : i < k) where
      -- the record's end lies in the book
      walked_ends : at + 4 + field book at ≤ length book
      unfolding relation_start
      walked_ends = let e = w.here in rw e (s.ends (suc i) (omega arith))

      -- the two bytes of its length too
      pub walked_inside : at + 1 < length book
      walked_inside = omega (arith, w.here, s.inside i h)

      -- the sums on the way to the next record fit
      pub walked_prefix : length book < 2 ^ 64 → Fits w64 (at + 4)
      walked_prefix l = record { fits = omega (arith, walked_ends) }

      module _ (r : ℕ) (f : Field book at r) where
        pub walked_fits : length book < 2 ^ 64 → Fits w64 (at + 4 + r)
        walked_fits l = record { fits = omega (arith, walked_ends, f.same) }

        -- one record further
        pub walked_more : Walked book k (at + 4 + r) (i + 1)
        unfolding relation_start
        walked_more =
            let e = w.here in
            let g = f.same in
            record { within = omega arith; here = rw (add-one i, g, e) }

pub ruleset starts = (walked_start, walked_end, walked_inside, walked_prefix, walked_fits, walked_more, rules)
