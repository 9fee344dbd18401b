-- A law for each way that the part with another member can go, where Z of i does not follow X and Y.
use Prim.Native.Nat.{ℕ, ◌+◌, ◌-◌, ◌≤◌, ◌<◌}
use mathlib.Core.Bool.{Bool, true, false, and-eq-true_iff}
use mathlib.Core.List.{List}
use mathlib.Core.Logic.{⊎_elim}
use mathlib.Core.Path.{◌≡◌, refl, sym, ap, ◌∙◌, subst}
use Rattle.std.proofs.Common.{Option, Some, None}
use native.Mathlib.Omega.{arith}
use borrow.Author.Rules.{rules}
use borrow.Author.Tests.{not-true, ltb-false}
use lib.Dec.{ltb}
use lib.ListN.{length, take, drop, length-drop}
use lib.Seq.{drop-drop}
use Rattle.words.specs.Words.{Word, is_prefix, common_prefix, common_suffix, part}
use Rattle.words.proofs.Tests.{true_or_false}
use Rattle.words.proofs.Parts.{part_length, part_take, part_drop}
use Rattle.words.proofs.Prefixes.{prefix_length}
use Rattle.words.proofs.Commons.{prefix_common, common_take}
use Rattle.words.proofs.CommonSuffixes.{suffix_within}
use Rattle.words.proofs.Searching.{none_of}
use Rattle.overlap.specs.Pieces.{word}
use Rattle.overlap.specs.Cuts.{len, z_of}
use Rattle.congruence.specs.Rows.{clean_relation_prefix}
use Rattle.least.specs.Possible.{possible}
use Rattle.least.specs.Writing.{clean_before, other_part}
use Rattle.layout.specs.Places.{end_cell}
use Rattle.layout.specs.Layout.{words_in, Checked}
use Rattle.layout.specs.Families.{family_by}
use Rattle.layout.proofs.Placed.{row_inside}
use Rattle.sites.specs.declared.Site.{Site}
use Rattle.sites.specs.Sites.{site_of, SitesInText}
use Rattle.sites.proofs.Sites.{Lies, site_in_text}
use Rattle.changes.specs.Changes.{shared_suffix}
use Rattle.moves.specs.State.{placed_mark}
use Rattle.walks.proofs.Legs.{passed}
use Rattle.parts.specs.declared.Source.{Source}
use Rattle.parts.specs.declared.LeastState.{LeastState}
use Rattle.parts.specs.declared.Stage.{Stage}
use Rattle.parts.specs.declared.Stage.TheVariants as Stages
use Rattle.parts.specs.State.{Makes}
use Rattle.members.specs.Members.{quiet}
use Rattle.parts.specs.Choices.{source_behind, rest_state, other_stage}
use Rattle.members.specs.Asked.{QuietAsked}
use Rattle.parts.specs.Asked.{EndsShared, OtherFound}
use Rattle.parts.proofs.Standing.{go_makes, empty_letters, empty_mark, site_lies, bare_stands, tail_mark, found_checked, found_fits, found_lies, found_small, found_written, found_short, found_source, found_lighter}

module _ (text table : List ℕ) (n : ℕ) (given : Word) (s : LeastState) (i j k : ℕ) (f : OtherFound text table n given s i j k) where
  checked : Checked text table n
  checked = found_checked text table n given s i k j f.chosen

  pub other_room_own : end_cell i < length table
  other_room_own = row_inside text table n checked.laid i f.chosen.found.asked.there

  pub other_room : end_cell j < length table
  other_room = row_inside text table n checked.laid j f.chosen.known

  module _ (own : Site) (eo : own ≡ site_of table i) (z : Site) (ez : z ≡ site_of table j) where
    own_lies : Lies text (words_in text table n) i own
    own_lies = site_lies text table n checked i f.chosen.found.asked.there own eo

    z_lies : Lies text (words_in text table n) j z
    z_lies = found_lies text table n given s i k j f.chosen z ez

    pub other_sites : SitesInText text own z
    other_sites = record { own = site_in_text text (words_in text table n) i own own_lies; other = site_in_text text (words_in text table n) j z z_lies }

    module _ (l : ℕ) (el : l ≡ shared_suffix text own z) where
      within : (l ≤ own.stop - own.tail) × (l ≤ z.stop - z.tail)
      unfolding shared_suffix
      within =
          let w = suffix_within (part text own.tail own.stop) (part text z.tail z.stop) in
          let a = part_length text own.tail own.stop own_lies.inside in
          let b = part_length text z.tail z.stop z_lies.inside in
          (omega (arith, w.0, a, el), omega (arith, w.1, b, el))

      pub other_cut : l ≤ own.stop
      other_cut = let w = within in omega (arith, w.0)

      other_up : own.tail ≤ own.stop - l
      other_up = let w = within in let y = own_lies in omega (arith, w.0, y.third)

      pub other_asked : QuietAsked text table n given own.tail (own.stop - l) k
      other_asked = record {
        checked = checked;
        span = record { upwards = other_up; inside = let y = own_lies in omega (arith, y.inside) };
        small = f.chosen.found.asked.ready.ready.text_short;
        within = f.chosen.found.within;
        short = f.chosen.found.asked.ready.short;
      }

      pub other_ends : EndsShared own z s.mark l k
      other_ends = record {
        small = found_small text table n given s i k j f.chosen z ez;
        own = let w = within in let y = own_lies in omega (arith, w.0, y.third);
        other = let w = within in omega (arith, w.1);
        low = let y = own_lies in let t = f.chosen.found.asked.ready.ready.text_short in omega (arith, y.inside, t);
        early = let a = f.chosen.found.within in let b = f.chosen.found.asked.ready.short in omega (arith, a, b);
      }

      -- Z of i is e z, with the common suffix z of both
      common : common_suffix (z_of (words_in text table n) i) (z_of (words_in text table n) j) ≡ l
      unfolding shared_suffix
      common = rw (own_lies.z, z_lies.z) (sym el)

      e_part : take (length (z_of (words_in text table n) i) - l) (z_of (words_in text table n) i) ≡ part text own.tail (own.stop - l)
      e_part =
          let y = own_lies in
          let a = part_length text own.tail own.stop y.inside in
          let w = within in
          let d : own.tail + (own.stop - own.tail - l) ≡ own.stop - l = omega (arith, w.0, y.third) in
          rw (y.z, a) (part_take text own.tail own.stop (own.stop - own.tail - l) (omega arith) ∙ ap (part text own.tail) d)

      e_long : length (part text own.tail (own.stop - l)) ≡ own.stop - l - own.tail
      e_long = let y = own_lies in part_length text own.tail (own.stop - l) (omega (arith, y.inside))

      module _ (x : Bool) (q : x ≡ quiet text (words_in text table n) given own.tail (own.stop - l) k) where
        module _ (h : x ≡ true) where
          -- e stands in the given word, and no clean relation prefix begins in it
          stands : (is_prefix (part text own.tail (own.stop - l)) (drop k given) ≡ true)
              × (clean_before (words_in text table n) (drop k given) (length (part text own.tail (own.stop - l))) ≡ false)
          unfolding quiet
          stands = let a = simp and-eq-true_iff at (sym q ∙ h) in (a.0, not-true _ a.1)

          rest_within : k + (own.stop - l - own.tail) ≤ length given
          rest_within =
              let p = prefix_length (part text own.tail (own.stop - l)) (drop k given) stands.0 in
              let d = length-drop k given in
              let g = e_long in
              let w = f.chosen.found.within in
              omega (arith, p, d, g, w)

          shared : own.stop - l - own.tail ≤ common_prefix (z_of (words_in text table n) i) (drop k given)
          shared =
              let y = own_lies in
              let a = prefix_common (part text own.tail (own.stop - l)) (drop k given) stands.0 in
              let g = e_long in
              let z_long = part_length text own.tail own.stop y.inside in
              let zl = ap length y.z ∙ z_long in
              let t = common_take (length (z_of (words_in text table n) i) - l) (z_of (words_in text table n) i) (drop k given) (omega arith) in
              let t' = rw e_part at t in
              let w = within in
              omega (arith, a, g, t', zl, w.0)

          quiet_places : (m : ℕ) → m < own.stop - l - own.tail → length (words_in text table n) ≤ clean_relation_prefix (words_in text table n) (drop m (drop k given))
          unfolding clean_before
          quiet_places m b =
              let g = e_long in
              ltb-false _ _ (none_of (length (part text own.tail (own.stop - l)))
              (λ z. ltb (clean_relation_prefix (words_in text table n) (drop z (drop k given))) (length (words_in text table n))) stands.1 m (omega (arith, b, g)))

          -- z is possible behind e
          possible_behind : possible (words_in text table n) (family_by table n) (part text (own.stop - l) own.stop) (drop (k + (own.stop - l - own.tail)) given) ≡ true
          possible_behind =
              let y = own_lies in
              let u = other_up in
              let a = (found_fits text table n given s i k j f.chosen).reached f.differs in
              let p = passed (words_in text table n) (family_by table n) (z_of (words_in text table n) i) (drop k given) (own.stop - l - own.tail) f.apart shared quiet_places in
              let d : own.tail + (own.stop - l - own.tail) ≡ own.stop - l = omega (arith, u) in
              let g : drop (own.stop - l - own.tail) (z_of (words_in text table n) i) ≡ part text (own.stop - l) own.stop =
              ap (drop (own.stop - l - own.tail)) y.z ∙ part_drop text own.tail own.stop (own.stop - l - own.tail) ∙ ap (λ b. part text b own.stop) d in
              sym (rw (g, drop-drop (own.stop - l - own.tail) k given) at p) ∙ a

          other_quiet : (c : Source) → c ≡ source_behind z s.mark (z.stop - l)
              → (t : LeastState) → t ≡ rest_state (k + (own.stop - l - own.tail)) (record { at = 0; to = 0 }) (Some (record { mark = record { at = own.stop - l; to = own.stop }; possible = true }))
              → Makes text (words_in text table n) (family_by table n) given s (other_part (words_in text table n) i j (placed_mark text s.mark) (drop k given)) (Some (Stages.Go c t))
          unfolding other_part rest_state
          other_quiet c ec t et =
              let y = own_lies in
              let v = z_lies in
              let w = within in
              rw (common, e_part, stands.0, stands.1, ec, et)
              (go_makes text (words_in text table n) (family_by table n) given s (source_behind z s.mark (z.stop - l))
              (record {
                word = record { at = 0; to = 0; from = k + (own.stop - l - own.tail) };
                mark = record { at = 0; to = 0 };
                hint = Some (record { mark = record { at = own.stop - l; to = own.stop }; possible = true });
              }) _ _ _
              (sym (found_written text table n given s i k j f.chosen z ez (take (len (words_in text table n) j - l) (word (words_in text table n) j)) (z.stop - l) (found_short text table n given s i k j f.chosen z ez l w.1)))
              refl
              (sym (ap (λ m. drop m (drop k given)) e_long ∙ drop-drop (own.stop - l - own.tail) k given))
              (record {
                source = found_source text table n given s i k j f.chosen z ez (z.stop - l) (omega (arith, w.1, v.second, v.third)) (omega arith);
                stands = record {
                  word = bare_stands text table n checked given (k + (own.stop - l - own.tail)) rest_within;
                  low = empty_letters;
                  mark = empty_mark text;
                  hint = record {
                    bare = omega arith;
                    mark = record { up = omega arith; inside = y.inside; short = omega (arith, w.0, y.first, y.second, y.short) };
                    told = possible_behind;
                  };
                };
                lighter = found_lighter text table n given s i k j f.chosen (k + (own.stop - l - own.tail)) (omega arith) rest_within
                    (record { at = 0; to = 0; from = k + (own.stop - l - own.tail) }) refl (omega arith);
              }))

        other_put : x ≡ false → (c : Source) → c ≡ source_behind z s.mark z.stop
            → (t : LeastState) → t ≡ rest_state k (record { at = own.tail; to = own.stop }) (Some (record { mark = record { at = own.tail; to = own.stop }; possible = true }))
            → Makes text (words_in text table n) (family_by table n) given s (other_part (words_in text table n) i j (placed_mark text s.mark) (drop k given)) (Some (Stages.Go c t))
        unfolding other_part quiet rest_state
        other_put h c ec t et =
            let y = own_lies in
            let v = z_lies in
            let r = sym q ∙ h in
            rw (common, e_part, r, ec, et)
            (go_makes text (words_in text table n) (family_by table n) given s (source_behind z s.mark z.stop)
            (record {
              word = record { at = 0; to = 0; from = k };
              mark = record { at = own.tail; to = own.stop };
              hint = Some (record { mark = record { at = own.tail; to = own.stop }; possible = true });
            }) _ _ _
            (sym (found_written text table n given s i k j f.chosen z ez (word (words_in text table n) j) z.stop v.whole))
            (sym y.z)
            refl
            (record {
              source = found_source text table n given s i k j f.chosen z ez z.stop (omega (arith, v.second, v.third)) (omega arith);
              stands = record {
                word = bare_stands text table n checked given k f.chosen.found.within;
                low = empty_letters;
                mark = tail_mark text table n checked i f.chosen.found.asked.there own eo;
                hint = record {
                  bare = omega arith;
                  mark = tail_mark text table n checked i f.chosen.found.asked.there own eo;
                  told = rw (← y.z) ((found_fits text table n given s i k j f.chosen).reached f.differs);
                };
              };
              lighter = found_lighter text table n given s i k j f.chosen k (omega arith) f.chosen.found.within (record { at = 0; to = 0; from = k }) refl (omega arith);
            }))

        pub other_made : (r : Stage) → r ≡ other_stage own z s.mark l k x
            → Makes text (words_in text table n) (family_by table n) given s (other_part (words_in text table n) i j (placed_mark text s.mark) (drop k given)) (Some r)
        unfolding other_stage
        other_made r e = rw e (⊎_elim
            (λ h. subst Made (sym (ap (other_stage own z s.mark l k) h)) (other_quiet h _ refl _ refl))
            (λ h. subst Made (sym (ap (other_stage own z s.mark l k) h)) (other_put h _ refl _ refl))
            (true_or_false x))
          where
            Made : Stage → Type 0
            Made r = Makes text (words_in text table n) (family_by table n) given s (other_part (words_in text table n) i j (placed_mark text s.mark) (drop k given)) (Some r)

pub ruleset others = (other_room_own, other_room, other_sites, other_cut, other_asked, other_ends, other_made, rules)
