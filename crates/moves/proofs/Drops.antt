-- A law for each way that the first letters of a state can tell its row, and for row 2.
use Prim.Native.Nat.{ℕ, ◌+◌, ◌≤◌, ◌<◌}
use mathlib.Core.Bool.{Bool, true, false}
use mathlib.Core.List.{List, [], ◌∷◌}
use Rattle.std.specs.Prelude.{Option, None, Some}
use Rattle.std.proofs.lemmas.Option.{none-some}
use mathlib.Core.Path.{◌≡◌, refl, sym, ap, ◌∙◌, subst}
use mathlib.Core.Logic.{by_cases}
use native.Mathlib.Omega.{arith}
use native.Mathlib.Decide.{dec_lt}
use borrow.Author.Rules.{rules}
use borrow.Author.Tests.{leb-false, lt-ltb, le-ltb}
use lib.Dec.{leb}
use lib.ListN.{length, get_or, drop, length-append, length-drop, get_or-append}
use lib.Seq.{get_or-drop, get_or-append-add}
use Rattle.words.specs.Words.{Word, is_empty, part}
use Rattle.words.proofs.Parts.{part_length, part_at}
use Rattle.layout.specs.Places.{table_room}
use Rattle.layout.specs.Layout.{words_in}
use Rattle.sites.specs.FirstLetters.{empty_list}
use Rattle.sites.proofs.FirstLetters.{begins_none}
use Rattle.changes.specs.declared.Changes.{Changes}
use Rattle.asked.specs.declared.Round.{Round}
use Rattle.plans.specs.Plans.{PlansRound}
use Rattle.plans.specs.RowPlans.{letter_drop}
use Rattle.plans.proofs.Laws.{drop_letters}
use Rattle.plans.proofs.Drops.{first_row_two, drop_plan}
use Rattle.moves.specs.declared.PlacedWord.{PlacedWord}
use Rattle.moves.specs.declared.State.{State}
use Rattle.moves.specs.State.{placed_word, placed_mark, WordFits, StateReady}
use Rattle.moves.specs.Drops.{held_empty, HasLetter, DropDue, RowTold}
use Rattle.moves.proofs.Laws.{move_applicable, move_made}

-- whether a held word has a letter
module _ (long : ℕ) (h : PlacedWord) where
  pub empty_part : h.at < h.to → false ≡ held_empty long h
  unfolding held_empty
  empty_part l = rw (lt-ltb _ _ l)

  pub empty_rest : h.to ≤ h.at → leb long h.from ≡ held_empty long h
  unfolding held_empty
  empty_rest l = rw (le-ltb _ _ l)

pub ruleset held_empties = (empty_part, empty_rest, rules)

-- its first letter
module _ (text : List ℕ) (source : Word) (h : PlacedWord) (f : HasLetter text source h) where
  rest_there : h.to ≤ h.at → h.from < length source
  unfolding held_empty
  rest_there l = leb-false (length source) h.from (rw (le-ltb _ _ l) at f.some)

  pub part_place : h.at < h.to → h.at < length text
  part_place l = let i = f.inside in omega arith

  pub part_letter : h.at < h.to → get_or text h.at 0 ≡ get_or (placed_word text source h) 0 0
  part_letter l =
      let i = f.inside in
      let k = part_length text h.at h.to i in
      sym (get_or-append (part text h.at h.to) (drop h.from source) 0 0 (omega arith) ∙ part_at text h.at h.to 0 (omega arith) ∙ ap (λ m. get_or text m 0) (omega arith))

  pub rest_place : h.to ≤ h.at → h.from < length source
  rest_place l = rest_there l

  pub rest_letter : h.to ≤ h.at → get_or source h.from 0 ≡ get_or (placed_word text source h) 0 0
  rest_letter l =
      let k : length (part text h.at h.to) ≡ 0 = part_length text h.at h.to f.inside ∙ omega arith in
      sym (ap (λ m. get_or (placed_word text source h) m 0) {x = 0} {y = length (part text h.at h.to) + 0} (omega arith)
      ∙ get_or-append-add (part text h.at h.to) (drop h.from source) 0 0 ∙ get_or-drop h.from source 0 0 ∙ ap (λ m. get_or source m 0) (omega arith))

pub ruleset first_letters = (part_place, part_letter, rest_place, rest_letter, rules)

-- the row that the first letters tell
some_of : (w : Word) → 0 < length w → is_empty w ≡ false
some_of [] e = absurd (omega arith)
some_of (x ∷ w) e = refl

module _ (text table : List ℕ) (n : ℕ) (first second : Word) (s : State) (p : StateReady text table n first second s) where
  pub told_nothing : RowTold text table n first second s None
  told_nothing = record { two = λ e. absurd (none-some 2 e) }

  pub table_long : length table ≡ table_room
  table_long = p.fitting.ready.grouped.checked.indexed.room

  held_some : (source : Word) (h : PlacedWord) → WordFits text (words_in text table n) source h → held_empty (length source) h ≡ false → is_empty (placed_word text source h) ≡ false
  unfolding held_empty
  held_some source h f e =
      let i = f.inside in
      let k = part_length text h.at h.to i in
      let a = length-append (part text h.at h.to) (drop h.from source) in
      let d = length-drop h.from source in
      some_of (placed_word text source h) (by_cases (dec_lt h.at h.to) (λ l. omega arith)
      (λ l. let r = leb-false (length source) h.from (rw (le-ltb h.at h.to (omega arith)) at e) in omega arith))

  module _ (eu : Bool) (fu : eu ≡ held_empty (length first) s.u) (hu : eu ≡ false) where
    pub has_u : HasLetter text first s.u
    has_u = record { inside = p.standing.u.inside; some = sym fu ∙ hu }

    module _ (ev : Bool) (fv : ev ≡ held_empty (length second) s.v) (hv : ev ≡ false) where
      pub has_v : HasLetter text second s.v
      has_v = record { inside = p.standing.v.inside; some = sym fv ∙ hv }

      pub told_two : (x : ℕ) → x ≡ get_or (placed_word text first s.u) 0 0 → (r : Bool) → r ≡ empty_list table x → r ≡ true → RowTold text table n first second s (Some 2)
      told_two x ex r er h =
          record {
            two = λ e.
                record {
                  ready = p;
                  row =
                      first_row_two text table n p.fitting.ready.grouped.checked (placed_word text first s.u) (placed_word text second s.v) (placed_mark text s.mark)
                      (held_some first s.u p.standing.u (sym fu ∙ hu)) (held_some second s.v p.standing.v (sym fv ∙ hv))
                      (rw ex at (begins_none text table n p.fitting.ready.grouped.checked x (sym er ∙ h)));
                  u = has_u;
                  v = has_v;
                };
          }

pub ruleset rows_told = (told_nothing, table_long, has_u, has_v, told_two, rules)

-- row 2
module _ (text table : List ℕ) (n : ℕ) (first second : Word) (s : State) (d : DropDue text table n first second s) where
  pub due_u : HasLetter text first s.u
  due_u = d.u

  pub due_v : HasLetter text second s.v
  due_v = d.v

  pub due_up : s.mark.at ≤ s.mark.to
  due_up = d.ready.standing.mark.up

  pub due_inside : s.mark.to ≤ length text
  due_inside = d.ready.standing.mark.inside

  module _ (x y : ℕ) (e : x ≡ get_or (placed_word text first s.u) 0 0) (f : y ≡ get_or (placed_word text second s.v) 0 0) (plan : Round Changes)
      (g : plan ≡ letter_drop x y (placed_mark text s.mark)) where
    pub due_plan : PlansRound text table n (placed_word text first s.u) (placed_word text second s.v) (placed_mark text s.mark) plan
    due_plan =
        let u = placed_word text first s.u in
        let v = placed_word text second s.v in
        let p = placed_mark text s.mark in
        subst (PlansRound text table n u v p) (sym (drop_letters u v p x y e f plan g)) (drop_plan text table n u v p d.row)

pub ruleset droppings = (due_u, due_v, due_up, due_inside, due_plan, rules)

-- one round
pub drop_due : (text table : List ℕ) (n : ℕ) (first second : Word) (s : State) (row : Option ℕ) → RowTold text table n first second s row → row ≡ Some 2 → DropDue text table n first second s
drop_due text table n first second s row t e = t.two e

pub ruleset rounds = (drop_due, move_applicable, move_made, rules)
