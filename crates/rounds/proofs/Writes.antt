-- Laws of the writers: a change written into a buffer, and the three of a round; and of the doors, where given words are widened and next words narrowed.
use Prim.Native.Nat.{ℕ, zero, suc, ◌+◌, ◌-◌, ◌≤◌, ◌<◌}
use mathlib.Core.Bool.{Bool}
use mathlib.Core.List.{List, [], ◌++◌}
use mathlib.Core.Path.{◌≡◌, ap, ◌∙◌}
use native.Mathlib.Omega.{arith}
use borrow.Author.Rules.{rules}
use mir.Syntax.{w64}
use mir.Val.{Fits}
use lib.ListN.{replicate, length-replicate, length, take, drop, length-append, length-drop}
use lib.Seq.{take_all}
use Rattle.words.specs.Words.{Word, part}
use Rattle.words.proofs.Parts.{part_length}
use Rattle.overlap.proofs.Facts.{rigid_of_c4}
use Rattle.congruence.specs.Rows.{round}
use Rattle.congruence.proofs.ShapeNoPrefix.{no_prefix_nil}
use Rattle.layout.specs.Places.{start_cell}
use Rattle.layout.specs.Layout.{words_in, start_of, Laid}
use Rattle.layout.specs.Families.{family_by}
use Rattle.layout.proofs.Whole.{whole_inside, whole_long, whole_words, whole_bytes, whole_checked}
use Rattle.given.specs.Given.{Widened}
use Rattle.writing.specs.Writing.{Bytes, Narrowing}
use Rattle.words.specs.Writing.{written}
use Rattle.writing.proofs.Writing.{written_zero, written_length, written_behind, bytes_drop, bytes_take}
use Rattle.changes.specs.declared.Change.{Change}
use Rattle.changes.specs.declared.Changes.{Changes}
use Rattle.asked.specs.declared.Round.{Round}
use Rattle.asked.specs.declared.Round.TheVariants as S
use Rattle.asked.specs.declared.Lengths.{Lengths}
use Rattle.plans.specs.Plans.{planned, Fit, MarkFit, PlanFit, PlansRound}
use Rattle.plans.specs.Plans.PlanFit.{goes}
use Rattle.plans.specs.Asked.{HeadClear}
use Rattle.rounds.specs.Writing.{written_by, Writable, Written, AllWritable, Planned, GivenShort, GivenRoom, LentInBytes, Lent}
use Rattle.rounds.specs.Writing.Outcome.{after}

-- a change is written by two writings, one behind the other
module _ (text : List ℕ) (c : Change) (w d : List ℕ) (h : Writable text c w d) where
  pub writable_up : c.from ≤ c.to
  writable_up = h.up

  pub writable_inside : c.to ≤ length text
  writable_inside = h.inside

  pub writable_within : c.cut ≤ length w
  writable_within = h.within

  part_long : length (part text c.from c.to) ≡ c.to - c.from
  part_long = part_length text c.from c.to h.inside

  pub writable_first : Narrowing (part text c.from c.to) d 0
  writable_first =
      record {
        room = omega (arith, part_long, h.room);
        bytes = bytes_take (drop c.from text) (c.to - c.from) (omega (arith, length-drop c.from text, h.inside)) (bytes_drop text c.from h.small);
      }

  pub writable_fits : Fits w64 (length d) → Fits w64 (c.to - c.from + (length w - c.cut))
  writable_fits f = let r = h.room in omega arith

  rest : take (length w - c.cut) (drop c.cut w) ≡ drop c.cut w
  rest = take_all (length w - c.cut) (drop c.cut w) (let l = length-drop c.cut w in omega arith)

  module _ (d₁ : List ℕ) (e : d₁ ≡ written 0 (part text c.from c.to) d) where
    pub writable_second : c.to - c.from + length (take (length w - c.cut) (drop c.cut w)) ≤ length d₁
    writable_second =
        let m : length d₁ ≡ length d = ap length e ∙ written_length 0 (part text c.from c.to) d (omega (arith, part_long, h.room)) in
        rw (rest, m, length-drop c.cut w) h.room

    pub change_written : (d₂ : List ℕ) → d₂ ≡ written (c.to - c.from) (take (length w - c.cut) (drop c.cut w)) d₁
        → Written text c w d (c.to - c.from + (length w - c.cut)) d₂
    change_written d₂ f =
        let x = part text c.from c.to in
        let k = length-drop c.cut w in
        let n = length-append (part text c.from c.to) (drop c.cut w) in
        let q : written (c.to - c.from) (take (length w - c.cut) (drop c.cut w)) d₁ ≡ written (c.to - c.from) (drop c.cut w) (written 0 x d) = rw (rest, e) in
        record {
          count = omega (arith, part_long);
          bytes = f ∙ q ∙ written_behind 0 x (drop c.cut w) d (c.to - c.from) (omega (arith, part_long)) (omega (arith, part_long, h.room))
              ∙ written_zero (x ++ drop c.cut w) d;
        }

pub ruleset writings = (writable_up, writable_inside, writable_within, writable_first, writable_fits, writable_second, change_written, rules)

-- the three changes of a plan that goes on
pub go_fit : (text : List ℕ) (B : List Word) (u v p : Word) (k : Changes) → PlanFit text B u v p (S.Next k) → Fit text B u k.u × Fit text B v k.v × MarkFit text B p k.mark
go_fit text B u v p k (goes a b c) = (a, b, c)

-- the mark's next word is no longer than 64
mark_room : (m k l : ℕ) → m ≤ 64 → l ≤ 64 → k ≤ l → (0 < m → k ≡ l) → m + (l - k) ≤ 64
mark_room zero k l a b c f = omega arith
mark_room (suc m) k l a b c f = let e = f (omega arith) in omega arith

-- three changes are written
module _ (text : List ℕ) (k : Changes) (u v p nu nv np : List ℕ) (h : AllWritable text k u v p nu nv np) where
  pub changes_u : Writable text k.u u nu
  changes_u = h.for_u

  pub changes_v : Writable text k.v v nv
  changes_v = h.for_v

  pub changes_p : Writable text k.mark p np
  changes_p = h.for_p

pub changes_written : (text : List ℕ) (k : Changes) (u v p nu nv np : List ℕ) (x : ℕ) (nu' : List ℕ) → Written text k.u u nu x nu' → (y : ℕ) (nv' : List ℕ) → Written text k.v v nv y nv'
    → (z : ℕ) (np' : List ℕ) → Written text k.mark p np z np' → after (S.Next (record { u = x; v = y; p = z })) nu' nv' np' ≡ written_by (planned text u v p (S.Next k)) nu nv np
unfolding planned written_by
changes_written text k u v p nu nv np x nu' wu y nv' wv z np' wp = rw (wu.count, wu.bytes, wv.count, wv.bytes, wp.count, wp.bytes)

pub ruleset change_writes = (changes_u, changes_v, changes_p, changes_written, rules)

-- a plan is written
pub plan_end : (text : List ℕ) (plan : Round Changes) (u v p nu nv np : List ℕ) (b : Bool) → plan ≡ S.End b → after (S.End b) nu nv np ≡ written_by (planned text u v p plan) nu nv np
unfolding planned written_by
plan_end text plan u v p nu nv np b e = rw e

pub plan_changes : (text : List ℕ) (plan : Round Changes) (u v p nu nv np : List ℕ) → Planned text plan u v p nu nv np → (k : Changes) → plan ≡ S.Next k → AllWritable text k u v p nu nv np
plan_changes text plan u v p nu nv np h k e = h.changes k e

pub plan_go : (text : List ℕ) (plan : Round Changes) (u v p nu nv np : List ℕ) (k : Changes) → plan ≡ S.Next k → (r : Round Lengths) (nu' nv' np' : List ℕ)
    → after r nu' nv' np' ≡ written_by (planned text u v p (S.Next k)) nu nv np → after r nu' nv' np' ≡ written_by (planned text u v p plan) nu nv np
plan_go text plan u v p nu nv np k e r nu' nv' np' f = rw e f

pub ruleset plan_writes = (plan_end, plan_changes, plan_go, rules)

-- a change of u or v fits into its buffer
fit_writable : (text : List ℕ) (B : List Word) (w d : List ℕ) (c : Change) → Bytes text → Fit text B w c → length w ≤ 4160 → 4224 ≤ length d → Writable text c w d
fit_writable text B w d c b f h r = let s = f.short in record { up = f.up; inside = f.inside; within = f.within; room = omega arith; small = b }

-- a change of the mark fits into its buffer
mark_writable : (text : List ℕ) (B : List Word) (p d : List ℕ) (c : Change) → Bytes text → MarkFit text B p c → length p ≤ 64 → 64 ≤ length d → Writable text c p d
mark_writable text B p d c b f h r =
    let s = f.short in
    let m = mark_room (c.to - c.from) c.cut (length p) (omega arith) h f.within (λ l. f.whole (omega arith)) in
    record { up = f.up; inside = f.inside; within = f.within; room = omega arith; small = b }

-- words in bytes are decided as they are widened
module _ (text table : List ℕ) (n : ℕ) (u v p : Word) (a c : List ℕ) (g : GivenRoom text table n u v p a c) where
  -- no X and Y stands in a head part without letters
  pub given_clear : HeadClear text table n []
  given_clear =
      let c = g.given.grouped in
      record { grouped = c; clear = no_prefix_nil (words_in text table n) (rigid_of_c4 (words_in text table n) c.checked.accepted) }

  pub given_p : length p ≤ length (replicate {A = ℕ} 64 0)
  given_p = let l = length-replicate {A = ℕ} 64 0 in omega (arith, g.given.short_p)

pub given_decided : (text table : List ℕ) (n : ℕ) (u v p nu nv np : List ℕ) (plan : Round Changes) → Widened u nu → Widened v nv → Widened p np
    → PlansRound text table n (take (length u) nu) (take (length v) nv) (take (length p) np) plan → PlansRound text table n u v p plan
given_decided text table n u v p nu nv np plan x y z q = rw (x.same, y.same, z.same) at q

pub ruleset decisions = (given_clear, given_p, given_decided, rules)

-- the single round over the text as far as its last fence
module _ (text table : List ℕ) (n : ℕ) (u v p nu nv np : List ℕ) (h : LentInBytes text table n u v p nu nv np) where
  pub lent_given : GivenShort text table n u v p
  lent_given = h.lent.given

  module _ (plan : Round Changes) (q : PlansRound text table n u v p plan) where
    pub round_planned : Planned text plan u v p nu nv np
    round_planned = record {
      changes = λ k e.
          let f = go_fit text (words_in text table n) u v p k (rw e at q.fits) in
          let g = h.lent.given in
          record {
            for_u = fit_writable text (words_in text table n) u nu k.u h.small f.0 g.short_u h.lent.room_u;
            for_v = fit_writable text (words_in text table n) v nv k.v h.small f.1 g.short_v h.lent.room_v;
            for_p = mark_writable text (words_in text table n) p np k.mark h.small f.2 g.short_p h.lent.room_p;
          };
    }

    pub round_written : (r : Round Lengths) (nu' nv' np' : List ℕ) → after r nu' nv' np' ≡ written_by (planned text u v p plan) nu nv np
        → after r nu' nv' np' ≡ written_by (round (words_in text table n) (family_by table n) u v p) nu nv np
    round_written r nu' nv' np' f = rw (← q.same) f

pub ruleset round_writes = (lent_given, round_planned, round_written, rules)

-- the single round
module _ (text table : List ℕ) (n : ℕ) (u v p nu nv np : List ℕ) (h : Lent text table n u v p nu nv np) where
  laid : Laid text table n
  laid = h.given.grouped.checked.laid

  pub lent_read : start_cell n < length table
  lent_read = laid.room

  module _ (t : ℕ) (e : t ≡ start_of table n) where
    pub lent_inside : t ≤ length text
    lent_inside = whole_inside text table n laid t e

    pub lent_long : t ≡ length (take t text)
    lent_long = whole_long text table n laid t e

    pub lent_whole : LentInBytes (take t text) table n u v p nu nv np
    lent_whole =
        let g = h.given in
        record {
          lent = record {
            given = record {
              grouped = record { checked = whole_checked text table n g.grouped.checked t e; linked = g.grouped.linked };
              short_u = g.short_u;
              short_v = g.short_v;
              short_p = g.short_p;
            };
            room_u = h.room_u;
            room_v = h.room_v;
            room_p = h.room_p;
          };
          small = whole_bytes text table n laid t e;
        }

    pub lent_written : (r : Round Lengths) (nu' nv' np' : List ℕ) → after r nu' nv' np' ≡ written_by (round (words_in (take t text) table n) (family_by table n) u v p) nu nv np
        → after r nu' nv' np' ≡ written_by (round (words_in text table n) (family_by table n) u v p) nu nv np
    lent_written r nu' nv' np' f = rw (whole_words text table n laid t e) at f

pub ruleset lents = (lent_read, lent_inside, lent_long, lent_whole, lent_written, rules)
