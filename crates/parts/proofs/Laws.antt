-- A law for each way that the small functions of a round can go.
use Prim.Native.Nat.{ℕ, ◌+◌, ◌-◌, ◌≤◌, ◌<◌}
use mathlib.Core.Bool.{Bool, true, false}
use mathlib.Core.List.{List}
use mathlib.Core.Path.{◌≡◌, refl, subst}
use Rattle.std.proofs.Common.{Option, Some, None}
use native.Mathlib.Omega.{arith}
use borrow.Author.Rules.{rules}
use borrow.Author.Tests.{lt-ltb, le-ltb, eq-eqb, ne_eqb}
use mir.Syntax.{w64}
use mir.Val.{Fits}
use lib.ListN.{length, get_or}
use Rattle.sites.specs.declared.Site.{Site}
use Rattle.moves.specs.declared.PlacedWord.{PlacedWord}
use Rattle.moves.specs.declared.Mark.{Mark}
use Rattle.moves.specs.State.{MarkFits}
use Rattle.parts.specs.declared.Hint.{Hint}
use Rattle.parts.specs.declared.Source.{Source}
use Rattle.parts.specs.declared.Source.TheVariants as Sources
use Rattle.parts.specs.declared.LeastState.{LeastState}
use Rattle.parts.specs.declared.Stage.TheVariants as Stages
use Rattle.parts.specs.Letters.{WordSmall, without_letter, first_source, HintLies, hint_behind}
use Rattle.parts.specs.Choices.{hint_of, source_behind, rest_state, tail_state, other_stage}
use Rattle.parts.specs.Asked.{PlacesSmall, EndsShared}

-- the letters behind the mark
module _ (s : Site) (m : Mark) (h : PlacesSmall s m) where
  pub source_up : m.at ≤ m.to
  source_up = h.up

  pub source_fits : Fits w64 (s.start + (m.to - m.at))
  source_fits = let a = h.start in let b = h.mark in omega arith

pub source_made : (s : Site) (m : Mark) (to : ℕ) → Sources.Text (s.start + (m.to - m.at)) to ≡ source_behind s m to
unfolding source_behind
source_made s m to = refl

pub ruleset sources = (source_up, source_fits, source_made, rules)

-- the states behind X and Y
pub rest_made : (k : ℕ) (m : Mark) (h : Option Hint) → record { word = record { at = 0; to = 0; from = k }; mark = m; hint = h } ≡ rest_state k m h
unfolding rest_state
rest_made k m h = refl

pub tail_made : (s : Site) (k : ℕ) (m : Mark) → record { word = record { at = s.tail; to = s.stop; from = k }; mark = m; hint = None } ≡ tail_state s k m
unfolding tail_state
tail_made s k m = refl

pub ruleset states = (rest_made, tail_made, rules)

-- another relation word in the place of the clean relation prefix
module _ (s z : Site) (m : Mark) (l k : ℕ) (h : EndsShared s z m l k) where
  pub ends_small : PlacesSmall z m
  ends_small = h.small

  pub ends_own : l ≤ s.stop
  ends_own = let a = h.own in omega arith

  pub ends_other : l ≤ z.stop
  ends_other = h.other

  pub ends_tail : s.tail ≤ s.stop - l
  ends_tail = let a = h.own in omega arith

  pub ends_fits : Fits w64 (k + (s.stop - l - s.tail))
  ends_fits = let a = h.low in let b = h.early in omega arith

module _ (s z : Site) (m : Mark) (l k : ℕ) (x : Bool) (c : Source) (t : LeastState) where
  pub ends_left : x ≡ true → c ≡ source_behind z m (z.stop - l)
      → t ≡ rest_state (k + (s.stop - l - s.tail)) (record { at = 0; to = 0 }) (Some (record { mark = record { at = s.stop - l; to = s.stop }; possible = true })) → Stages.Go c t ≡ other_stage s z m l k x
  unfolding other_stage
  ends_left h e f = rw (h, e, f)

  pub ends_whole : x ≡ false → c ≡ source_behind z m z.stop
      → t ≡ rest_state k (record { at = s.tail; to = s.stop }) (Some (record { mark = record { at = s.tail; to = s.stop }; possible = true })) → Stages.Go c t ≡ other_stage s z m l k x
  unfolding other_stage
  ends_whole h e f = rw (h, e, f)

pub ruleset ends = (ends_small, ends_own, ends_other, ends_tail, ends_fits, ends_left, ends_whole, rules)

-- a held word without its first letter, and where that letter stands
module _ (h : PlacedWord) (w : WordSmall h) where
  pub letter_at_fits : h.at < h.to → Fits w64 (h.at + 1)
  letter_at_fits l = let a = w.to in omega arith

  pub letter_from_fits : Fits w64 (h.from + 1)
  letter_from_fits = let a = w.from in omega arith

module _ (h : PlacedWord) where
  pub without_part : h.at < h.to → record { at = h.at + 1; to = h.to; from = h.from } ≡ without_letter h
  unfolding without_letter
  without_part l = rw (lt-ltb _ _ l)

  pub without_rest : h.to ≤ h.at → record { at = h.at; to = h.to; from = h.from + 1 } ≡ without_letter h
  unfolding without_letter
  without_rest l = rw (le-ltb _ _ l)

  pub letter_part : h.at < h.to → Sources.Text h.at (h.at + 1) ≡ first_source h
  unfolding first_source
  letter_part l = rw (lt-ltb _ _ l)

  pub letter_rest : h.to ≤ h.at → Sources.Given h.from (h.from + 1) ≡ first_source h
  unfolding first_source
  letter_rest l = rw (le-ltb _ _ l)

pub ruleset withouts = (letter_at_fits, letter_from_fits, without_part, without_rest, rules)

pub ruleset first_sources = (letter_at_fits, letter_from_fits, letter_part, letter_rest, rules)

-- what is known behind a letter
pub hint_none : (text : List ℕ) (h : Option Hint) (x : ℕ) → h ≡ None → None ≡ hint_behind text h x
unfolding hint_behind
hint_none text h x e = rw e

module _ (text : List ℕ) (h : Option Hint) (x : ℕ) (o : Hint) (e : h ≡ Some o) where
  hint_mark : HintLies text h → MarkFits text o.mark
  hint_mark f = subst (HintLies text) e f

  pub hint_place : HintLies text h → o.mark.at < o.mark.to → o.mark.at < length text
  hint_place f l = let i = (hint_mark f).inside in omega arith

  pub hint_fits : HintLies text h → Fits w64 (length text) → o.mark.at < o.mark.to → Fits w64 (o.mark.at + 1)
  hint_fits f w l = let i = (hint_mark f).inside in omega arith

  module _ (l : o.mark.at < o.mark.to) where
    pub hint_same : get_or text o.mark.at 0 ≡ x → Some (record { mark = record { at = o.mark.at + 1; to = o.mark.to }; possible = o.possible }) ≡ hint_behind text h x
    unfolding hint_behind
    hint_same f = rw (e, lt-ltb _ _ l, eq-eqb _ _ f)

    pub hint_unlike : (get_or text o.mark.at 0 ≡ x → ⊥) → None ≡ hint_behind text h x
    unfolding hint_behind
    hint_unlike f = rw (e, lt-ltb _ _ l, ne_eqb _ _ f)

  pub hint_empty : o.mark.to ≤ o.mark.at → None ≡ hint_behind text h x
  unfolding hint_behind
  hint_empty l = rw (e, le-ltb _ _ l)

pub ruleset hints_behind = (hint_none, hint_place, hint_fits, hint_same, hint_unlike, hint_empty, rules)

pub told_nothing : (s : Site) (t : Option Bool) → t ≡ None → None ≡ hint_of s t
unfolding hint_of
told_nothing s t e = rw e

pub told_that : (s : Site) (t : Option Bool) (b : Bool) → t ≡ Some b → Some (record { mark = record { at = s.tail; to = s.stop }; possible = b }) ≡ hint_of s t
unfolding hint_of
told_that s t b e = rw e

pub ruleset hints_of = (told_nothing, told_that, rules)
