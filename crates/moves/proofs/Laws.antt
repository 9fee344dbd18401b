-- A law for each way that one round of a comparison can go.
use Prim.Native.Nat.{ℕ, ◌+◌, ◌-◌, ◌<◌, ◌≤◌}
use mathlib.Core.Bool.{Bool}
use mathlib.Core.List.{List, ◌++◌}
use mathlib.Core.Path.{◌≡◌, subst}
use native.Mathlib.Omega.{arith}
use borrow.Author.Rules.{rules}
use borrow.Author.Tests.{lt-ltb, le-ltb}
use lib.ListN.{length, take, drop, length-append, length-drop}
use Rattle.words.specs.Words.{Word, part}
use Rattle.words.proofs.Parts.{part_length}
use Rattle.overlap.proofs.Facts.{rigid_of_c4}
use Rattle.congruence.specs.Rows.{round}
use Rattle.congruence.proofs.Heads.{Facts}
use Rattle.layout.specs.Layout.{words_in}
use Rattle.layout.specs.Families.{family_by}
use Rattle.kin.proofs.Laws.{rest_lent}
use Rattle.changes.specs.declared.Change.{Change}
use Rattle.changes.specs.declared.Changes.{Changes}
use Rattle.asked.specs.declared.Round.{Round}
use Rattle.asked.specs.declared.Round.TheVariants as Rounds
use Rattle.plans.specs.Plans.{planned, Fit, MarkFit, PlanFit, PlansRound}
use Rattle.plans.specs.Plans.PlanFit.{goes}
use Rattle.plans.specs.Asked.{HeadClear}
use Rattle.moves.specs.declared.PlacedWord.{PlacedWord}
use Rattle.moves.specs.declared.Mark.{Mark}
use Rattle.moves.specs.declared.State.{State}
use Rattle.moves.specs.State.{placed_word, placed_mark, WordFits, MarkFits, beyond_of, Movable, MarkMovable, advanced_of, advanced_mark, move_of, Applicable, StateReady, RoundMade}
use Rattle.moves.proofs.Advancing.{holds_advanced, mark_advanced}

-- the word after a change
module _ (h : PlacedWord) (c : Change) (r : ℕ) (e : r ≡ beyond_of c.cut (h.to - h.at)) where
  pub advance_replaced : c.from < c.to → record { at = c.from; to = c.to; from = h.from + r } ≡ advanced_of h c
  unfolding advanced_of
  advance_replaced l = rw (e, lt-ltb _ _ l)

  pub advance_emptied : c.to ≤ c.from → h.to - h.at ≤ c.cut → record { at = h.to; to = h.to; from = h.from + r } ≡ advanced_of h c
  unfolding advanced_of
  advance_emptied l k = rw (e, le-ltb _ _ l, le-ltb _ _ k)

pub advance_shortened : (h : PlacedWord) (c : Change) → c.to ≤ c.from → c.cut < h.to - h.at
    → record { at = h.at + c.cut; to = h.to; from = h.from } ≡ advanced_of h c
unfolding advanced_of
advance_shortened h c l k = rw (le-ltb _ _ l, lt-ltb _ _ k)

pub ruleset advances = (advance_replaced, advance_emptied, advance_shortened, rules)

-- the round of a state: the rest of a given word is lent as the part up to its end
pub plan_held : (text table : List ℕ) (n : ℕ) (first second : Word) (s : State) (r : Round Changes)
    → PlansRound text table n
    (part text s.u.at s.u.to ++ take (length first - s.u.from) (drop s.u.from first))
    (part text s.v.at s.v.to ++ take (length second - s.v.from) (drop s.v.from second))
    (part text s.mark.at s.mark.to) r
    → PlansRound text table n (placed_word text first s.u) (placed_word text second s.v) (placed_mark text s.mark) r
plan_held text table n first second s r d = rw (rest_lent first s.u.from, rest_lent second s.v.from) at d

-- the lent parts lie in what they are parts of
module _ (text table : List ℕ) (n : ℕ) (first second : Word) (s : State) (p : StateReady text table n first second s) where
  pub poised_clear : HeadClear text table n (part text s.u.at s.u.to)
  poised_clear = record { grouped = p.fitting.ready.grouped; clear = p.standing.u.no_prefix }

  pub u_up : s.u.at ≤ s.u.to
  u_up = p.standing.u.up

  pub u_inside : s.u.to ≤ length text
  u_inside = p.standing.u.inside

  pub u_within : s.u.from ≤ length first
  u_within = p.standing.u.within

  pub v_up : s.v.at ≤ s.v.to
  v_up = p.standing.v.up

  pub v_inside : s.v.to ≤ length text
  v_inside = p.standing.v.inside

  pub v_within : s.v.from ≤ length second
  v_within = p.standing.v.within

  pub mark_up : s.mark.at ≤ s.mark.to
  mark_up = p.standing.mark.up

  pub mark_inside : s.mark.to ≤ length text
  mark_inside = p.standing.mark.inside

pub ruleset plans = (plan_held, poised_clear, u_up, u_inside, u_within, v_up, v_inside, v_within, mark_up, mark_inside, rules)

-- carrying a plan out
module _ (s : State) (plan : Round Changes) (a : Applicable s plan) where
  pub carried_end : (b : Bool) → plan ≡ Rounds.End b → Rounds.End b ≡ move_of s plan
  carried_end b e = rw e

  module _ (k : Changes) (e : plan ≡ Rounds.Next k) where
    movables : Movable s.u k.u × Movable s.v k.v × MarkMovable s.mark k.mark
    movables = subst (Applicable s) e a

    pub movable_u : Movable s.u k.u
    movable_u = movables.0

    pub movable_v : Movable s.v k.v
    movable_v = movables.1

    pub movable_mark : MarkMovable s.mark k.mark
    movable_mark = movables.2

    pub carried_next : (hu hv : PlacedWord) (m : Mark) → hu ≡ advanced_of s.u k.u → hv ≡ advanced_of s.v k.v → m ≡ advanced_mark s.mark k.mark
        → Rounds.Next (record { u = hu; v = hv; mark = m }) ≡ move_of s plan
    carried_next hu hv m f g h = rw (e, f, g, h)

pub ruleset carries = (carried_end, movable_u, movable_v, movable_mark, carried_next, rules)

-- one step is one round
module _ (text table : List ℕ) (n : ℕ) (first second : Word) (s : State) (p : StateReady text table n first second s) where
  words : List Word
  words = words_in text table n

  cuts : Facts words
  unfolding words
  cuts = rigid_of_c4 (words_in text table n) p.fitting.ready.grouped.checked.accepted

  movable_of_fit : (source : Word) → length source ≤ 65536 → (h : PlacedWord) → WordFits text words source h → (c : Change) → Fit text words (placed_word text source h) c → Movable h c
  movable_of_fit source k h f c g =
      let l = length-append (part text h.at h.to) (drop h.from source) in
      let m = part_length text h.at h.to f.inside in
      let d = length-drop h.from source in
      record {
        up = f.up;
        low = omega (arith, f.inside, p.fitting.ready.text_short);
        early = omega (arith, f.within);
        small = omega (arith, g.within, f.inside, p.fitting.ready.text_short);
      }

  mark_of_fit : (m : Mark) → MarkFits text m → (c : Change) → MarkFit text words (placed_mark text m) c → MarkMovable m c
  mark_of_fit m f c g =
      let l = part_length text m.at m.to f.inside in
      record { low = omega (arith, f.up, f.inside, p.fitting.ready.text_short); small = omega (arith, g.within, f.inside, p.fitting.ready.text_short) }

  applicable : (plan : Round Changes) → PlanFit text words (placed_word text first s.u) (placed_word text second s.v) (placed_mark text s.mark) plan → Applicable s plan
  unfolding words
  applicable (Rounds.End b) f = tt
  applicable (Rounds.Next k) (goes a b c) = (
    movable_of_fit first (omega (arith, p.fitting.first_short)) s.u p.standing.u k.u a,
    movable_of_fit second (omega (arith, p.fitting.second_short)) s.v p.standing.v k.v b,
    mark_of_fit s.mark p.standing.mark k.mark c,
  )

  round_made : (plan : Round Changes) → PlanFit text words (placed_word text first s.u) (placed_word text second s.v) (placed_mark text s.mark) plan
      → planned text (placed_word text first s.u) (placed_word text second s.v) (placed_mark text s.mark) plan ≡ round words (family_by table n) (placed_word text first s.u) (placed_word text second s.v) (placed_mark text s.mark)
      → RoundMade text table n first second s (move_of s plan)
  unfolding words planned
  round_made (Rounds.End b) f e = record { same = e; stands = tt }
  round_made (Rounds.Next k) (goes a b c) e =
      let hu = holds_advanced text (words_in text table n) cuts first s.u p.standing.u k.u a in
      let hv = holds_advanced text (words_in text table n) cuts second s.v p.standing.v k.v b in
      let hm = mark_advanced text (words_in text table n) s.mark p.standing.mark k.mark c in
      record { same = rw (hu.same, hv.same, hm.same) e; stands = record { u = hu.fit; v = hv.fit; mark = hm.fit } }

  module _ (plan : Round Changes) (d : PlansRound text table n (placed_word text first s.u) (placed_word text second s.v) (placed_mark text s.mark) plan) where
    pub move_applicable : Applicable s plan
    unfolding words
    move_applicable = applicable plan d.fits

    pub move_made : (r : Round State) → r ≡ move_of s plan → RoundMade text table n first second s r
    unfolding words
    move_made r e = rw e (round_made plan d.fits d.same)
