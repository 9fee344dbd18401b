-- One change of a state's words is the change of the words that it stands for, and keeps their shape.
use Prim.Native.Nat.{ℕ, ◌+◌, ◌-◌, ◌<◌, ◌≤◌}
use mathlib.Core.Bool.{Bool, true, false}
use mathlib.Core.List.{List, [], ◌++◌, append-nil}
use mathlib.Core.Path.{◌≡◌, refl, sym, ◌∙◌}
use native.Mathlib.Omega.{arith}
use borrow.Author.Tests.{ltb-true, ltb-false}
use lib.Dec.{ltb}
use lib.ListN.{length, drop, length-append, length-drop}
use lib.Seq.{drop-append-le, drop-drop}
use Rattle.words.specs.Words.{Word, part}
use Rattle.words.proofs.Lists.{drop_past}
use Rattle.words.proofs.Parts.{part_length, part_none, part_drop}
use Rattle.congruence.proofs.Heads.{Facts}
use Rattle.congruence.proofs.ShapeNoPrefix.{no_prefix_nil, no_prefix_drop, no_prefix_z, prefix_past_tail}
use Rattle.changes.specs.declared.Change.{Change}
use Rattle.plans.specs.Plans.{applied, Fit, MarkFit}
use Rattle.moves.specs.declared.PlacedWord.{PlacedWord}
use Rattle.moves.specs.declared.Mark.{Mark}
use Rattle.moves.specs.State.{placed_word, placed_mark, WordFits, MarkFits, advanced_of, advanced_mark}

-- a held word that stands for w
pub record Holds (text : List ℕ) (B : List Word) (source w : Word) (h : PlacedWord) : Type 0 where
  pub fit : WordFits text B source h
  pub same : placed_word text source h ≡ w

pub record MarkHolds (text : List ℕ) (p : Word) (m : Mark) : Type 0 where
  pub fit : MarkFits text m
  pub same : placed_mark text m ≡ p

module _ (text : List ℕ) (B : List Word) (cut4 : Facts B) (source : Word) (h : PlacedWord) (f : WordFits text B source h) (c : Change) (g : Fit text B (placed_word text source h) c) where
  z : Word
  z = part text h.at h.to

  z_length : length z ≡ h.to - h.at
  unfolding z
  z_length = part_length text h.at h.to f.inside

  -- what is cut lies in the two parts of the word
  cut_within : c.cut ≤ (h.to - h.at) + (length source - h.from)
  unfolding z
  cut_within =
      let l = z_length in
      omega (arith, g.within, length-append (part text h.at h.to) (drop h.from source), length-drop h.from source)

  -- what is left where the part of the text is cut away whole
  rest : length z ≤ c.cut → drop c.cut (z ++ drop h.from source) ≡ drop (h.from + (c.cut - (h.to - h.at))) source
  rest k = drop_past z (drop h.from source) c.cut k ∙ drop-drop (c.cut - length z) h.from source ∙ rw z_length

  -- a new part of the text: the old one is cut away whole
  replaced : c.from < c.to → Holds text B source (applied text c (placed_word text source h)) (record { at = c.from; to = c.to; from = h.from + (c.cut - (h.to - h.at)) })
  unfolding z
  replaced l =
      let t = g.tailed l in
      let past : length z < c.cut = omega (arith, prefix_past_tail B cut4 z (drop h.from source) t.by f.no_prefix t.there t.prefix, t.taken) in
      let e = rest (omega arith) in
      record {
        fit = record {
          up = g.up;
          inside = g.inside;
          short = g.short;
          within = omega (arith, cut_within, z_length, f.within);
          no_prefix = rw t.tail (no_prefix_z B cut4 t.of t.known);
        };
        same = rw e;
      }

  -- the cut leaves some of the old part
  shortened : c.to ≤ c.from → c.cut < h.to - h.at → Holds text B source (applied text c (placed_word text source h)) (record { at = h.at + c.cut; to = h.to; from = h.from })
  unfolding z
  shortened l k =
      let e : drop c.cut (z ++ drop h.from source) ≡ part text (h.at + c.cut) h.to ++ drop h.from source =
      drop-append-le c.cut z (drop h.from source) (omega (arith, z_length)) ∙ rw (part_drop text h.at h.to c.cut) in
      record {
        fit = record {
          up = omega arith;
          inside = f.inside;
          short = omega (arith, f.short);
          within = f.within;
          no_prefix = rw (part_drop text h.at h.to c.cut) at (no_prefix_drop B z c.cut f.no_prefix);
        };
        same = rw (part_none text c.from c.to l, e);
      }

  -- the cut leaves nothing of it
  emptied : c.to ≤ c.from → h.to - h.at ≤ c.cut
      → Holds text B source (applied text c (placed_word text source h)) (record { at = h.to; to = h.to; from = h.from + (c.cut - (h.to - h.at)) })
  unfolding z
  emptied l k =
      let e = rest (omega (arith, z_length)) in
      let n : part text h.to h.to ≡ [] = part_none text h.to h.to (omega arith) in
      record {
        fit = record {
          up = omega arith;
          inside = f.inside;
          short = omega arith;
          within = omega (arith, cut_within, f.within);
          no_prefix = rw n (no_prefix_nil B cut4);
        };
        same = rw (part_none text c.from c.to l, e, n);
      }

  pub holds_advanced : Holds text B source (applied text c (placed_word text source h)) (advanced_of h c)
  unfolding advanced_of
  holds_advanced = go (ltb c.from c.to) refl (ltb c.cut (h.to - h.at)) refl
    where
      go : (a : Bool) → ltb c.from c.to ≡ a → (b : Bool) → ltb c.cut (h.to - h.at) ≡ b
          → Holds text B source (applied text c (placed_word text source h)) (advanced_of h c)
      go true e b d = rw e (replaced (ltb-true _ _ e))
      go false e true d = rw (e, d) (shortened (ltb-false _ _ e) (ltb-true _ _ d))
      go false e false d = rw (e, d) (emptied (ltb-false _ _ e) (ltb-false _ _ d))

module _ (text : List ℕ) (B : List Word) (m : Mark) (f : MarkFits text m) (c : Change) (g : MarkFit text B (placed_mark text m) c) where
  mark_length : length (placed_mark text m) ≡ m.to - m.at
  mark_length = part_length text m.at m.to f.inside

  pub mark_advanced : MarkHolds text (applied text c (placed_mark text m)) (advanced_mark m c)
  unfolding advanced_mark
  mark_advanced = go (ltb c.from c.to) refl
    where
      go : (a : Bool) → ltb c.from c.to ≡ a → MarkHolds text (applied text c (placed_mark text m)) (advanced_mark m c)
      go true e =
          let n : drop c.cut (placed_mark text m) ≡ [] = part_drop text m.at m.to c.cut ∙ part_none text (m.at + c.cut) m.to (omega (arith, mark_length, g.whole (ltb-true _ _ e))) in
          rw e (record { fit = record { up = g.up; inside = g.inside; short = g.short }; same = sym (rw n (append-nil (part text c.from c.to))) })
      go false e =
          rw e
          (record {
            fit = record { up = omega (arith, mark_length, g.within, f.up); inside = f.inside; short = omega (arith, f.short) };
            same = rw (part_none text c.from c.to (ltb-false _ _ e), part_drop text m.at m.to c.cut);
          })
