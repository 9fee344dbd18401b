-- A law for each way that the part of a whole relation word can go.
use Prim.Native.Nat.{ℕ, ◌≤◌, ◌<◌}
use mathlib.Core.Bool.{Bool, true, false}
use mathlib.Core.List.{List, ◌++◌}
use mathlib.Core.Path.{◌≡◌, refl, sym, ap, ◌∙◌}
use Rattle.std.proofs.Common.{Option, Some, None}
use native.Mathlib.Omega.{arith}
use borrow.Author.Rules.{rules}
use lib.ListN.{length, drop, length-drop}
use Rattle.words.specs.Words.{Word}
use Rattle.words.proofs.Prefixes.{prefix_length}
use Rattle.overlap.specs.Pieces.{word}
use Rattle.overlap.specs.Cuts.{xy_of, z_of}
use Rattle.overlap.proofs.Facts.{length_z}
use Rattle.congruence.specs.Rows.{active}
use Rattle.least.specs.Writing.{carrier, whole_part}
use Rattle.least.proofs.Shape.{carrier_there}
use Rattle.layout.specs.Places.{end_cell}
use Rattle.layout.specs.Layout.{words_in}
use Rattle.layout.specs.Families.{family_by}
use Rattle.layout.proofs.Placed.{words_length, row_inside}
use Rattle.sites.specs.declared.Site.{Site}
use Rattle.sites.specs.Sites.{site_of}
use Rattle.moves.specs.State.{placed_mark}
use Rattle.parts.specs.declared.Source.{Source}
use Rattle.parts.specs.declared.LeastState.{LeastState}
use Rattle.parts.specs.declared.Stage.TheVariants as Stages
use Rattle.parts.specs.State.{Makes}
use Rattle.parts.specs.Choices.{source_behind, tail_state}
use Rattle.kin.specs.Asked.{RestAsked}
use Rattle.members.specs.Asked.{IdleAsked}
use Rattle.parts.specs.Asked.{PlacesSmall, WholeFound}
use Rattle.parts.proofs.Standing.{go_makes, empty_mark, site_lies, tail_stands, tail_letters, tail_mark, found_checked, found_lies, found_small, found_written, found_source, found_lighter}

module _ (text table : List ℕ) (n : ℕ) (given : Word) (s : LeastState) (i j k : ℕ) (f : WholeFound text table n given s i j k) where
  -- Z lies in the given word
  whole_within : k ≤ length given
  whole_within =
      let p = prefix_length (z_of (words_in text table n) i) (drop f.before given) f.whole in
      let l = length_z (words_in text table n) i in
      let d = length-drop f.before given in
      let e = f.place in
      let w = f.chosen.found.within in
      omega (arith, p, l, d, e, w)

  pub whole_rest : RestAsked text table n given j k
  whole_rest = record { word = record { grouped = f.chosen.found.asked.ready.ready.grouped; there = f.chosen.known }; within = whole_within }

  whole_rest_own : RestAsked text table n given i k
  whole_rest_own = record { word = record { grouped = f.chosen.found.asked.ready.ready.grouped; there = f.chosen.found.asked.there }; within = whole_within }

  -- the carrier is looked for where Z of j is not active
  pub whole_idle : (x : Bool) → x ≡ active (words_in text table n) (z_of (words_in text table n) j) (drop k given) → x ≡ false → IdleAsked text table n given i j k
  whole_idle x e h = record { rest = whole_rest_own; idle = λ y q. q ∙ sym e ∙ h }

  pub whole_room : end_cell j < length table
  whole_room = row_inside text table n f.chosen.found.asked.ready.ready.grouped.checked.laid j f.chosen.known

  later : f.before ≤ k
  later = let e = f.place in omega (arith, e)

  module _ (c : ℕ) (g : c ≡ carrier (words_in text table n) (family_by table n) i (drop k given)) where
    carrier_below : c < n
    carrier_below =
        let b = words_length text table n in
        let q = carrier_there (words_in text table n) (family_by table n) i (drop k given) (rw b f.chosen.found.asked.there) in
        omega (arith, g, q, b)

    pub whole_room_carrier : end_cell c < length table
    whole_room_carrier = row_inside text table n f.chosen.found.asked.ready.ready.grouped.checked.laid c carrier_below

  module _ (z : Site) (e : z ≡ site_of table j) where
    pub whole_small : PlacesSmall z s.mark
    whole_small = found_small text table n given s i f.before j f.chosen z e

    module _ (x : Bool) (a : x ≡ active (words_in text table n) (z_of (words_in text table n) j) (drop k given)) (c : Source) where
      pub whole_active : x ≡ true → c ≡ source_behind z s.mark z.tail → (t : LeastState) → t ≡ tail_state z k (record { at = 0; to = 0 })
          → Makes text (words_in text table n) (family_by table n) given s (whole_part (words_in text table n) (family_by table n) i j (placed_mark text s.mark) (drop k given)) (Some (Stages.Go c t))
      unfolding whole_part tail_state
      whole_active h q t et =
          let ch = found_checked text table n given s i f.before j f.chosen in
          let y = found_lies text table n given s i f.before j f.chosen z e in
          rw (sym a ∙ h, q, et)
          (go_makes text (words_in text table n) (family_by table n) given s (source_behind z s.mark z.tail)
          (record { word = record { at = z.tail; to = z.stop; from = k }; mark = record { at = 0; to = 0 }; hint = None }) _ _ _
          (sym (found_written text table n given s i f.before j f.chosen z e (xy_of (words_in text table n) j) z.tail y.xy))
          refl
          (ap (◌++ drop k given) (sym y.z))
          (record {
            source = found_source text table n given s i f.before j f.chosen z e z.tail (omega (arith, y.second)) y.third;
            stands = record {
              word = tail_stands text table n ch j f.chosen.known z e given k whole_within;
              low = tail_letters text table n ch j f.chosen.known z e;
              mark = empty_mark text;
              hint = tt;
            };
            lighter = found_lighter text table n given s i f.before j f.chosen k later whole_within (record { at = z.tail; to = z.stop; from = k }) refl (omega (arith, y.first, y.second, y.short));
          }))

      pub whole_put : (m : ℕ) → m ≡ carrier (words_in text table n) (family_by table n) i (drop k given) → (y : Site) → y ≡ site_of table m → x ≡ false → c ≡ source_behind z s.mark z.stop
          → (o : LeastState) → o ≡ tail_state y k (record { at = y.tail; to = y.stop })
          → Makes text (words_in text table n) (family_by table n) given s (whole_part (words_in text table n) (family_by table n) i j (placed_mark text s.mark) (drop k given)) (Some (Stages.Go c o))
      unfolding whole_part tail_state
      whole_put m g y d h q o eo =
          let ch = found_checked text table n given s i f.before j f.chosen in
          let v = found_lies text table n given s i f.before j f.chosen z e in
          let t = carrier_below m g in
          let u = site_lies text table n ch m t y d in
          rw (sym a ∙ h, q, eo, ← g)
          (go_makes text (words_in text table n) (family_by table n) given s (source_behind z s.mark z.stop)
          (record { word = record { at = y.tail; to = y.stop; from = k }; mark = record { at = y.tail; to = y.stop }; hint = None }) _ _ _
          (sym (found_written text table n given s i f.before j f.chosen z e (word (words_in text table n) j) z.stop v.whole))
          (sym u.z)
          (ap (◌++ drop k given) (sym u.z))
          (record {
            source = found_source text table n given s i f.before j f.chosen z e z.stop (omega (arith, v.second, v.third)) (omega arith);
            stands = record {
              word = tail_stands text table n ch m t y d given k whole_within;
              low = tail_letters text table n ch m t y d;
              mark = tail_mark text table n ch m t y d;
              hint = tt;
            };
            lighter = found_lighter text table n given s i f.before j f.chosen k later whole_within (record { at = y.tail; to = y.stop; from = k }) refl (omega (arith, u.first, u.second, u.short));
          }))

pub ruleset wholes = (whole_rest, whole_idle, whole_room, whole_room_carrier, whole_small, whole_active, whole_put, rules)
