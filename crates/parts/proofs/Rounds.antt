-- A law for each way that a round can go.
use Prim.Native.Nat.{ℕ, ◌+◌, ◌-◌, ◌≤◌, ◌<◌}
use mathlib.Core.Bool.{Bool, true, false, true≢false}
use mathlib.Core.Logic.{by_cases}
use mathlib.Core.List.{List, []}
use mathlib.Core.Path.{◌≡◌, refl, sym, ap, ◌∙◌}
use Rattle.std.proofs.Common.{Option, Some, None}
use native.Mathlib.Omega.{arith}
use native.Mathlib.Decide.{dec_lt}
use borrow.Author.Rules.{rules}
use borrow.Author.Tests.{lt-ltb, le-ltb, le-leb, lt-leb, leb-true, leb-false, eq-eqb, ne_eqb}
use mir.Syntax.{w64}
use mir.Val.{Fits}
use lib.ListN.{length, drop, length-append, length-drop, drop_of_length-le}
use lib.Seq.{drop-drop}
use Rattle.words.specs.Words.{Word, is_empty, is_prefix, part}
use Rattle.words.proofs.Lists.{drop_past}
use Rattle.words.proofs.Parts.{part_length, part_none}
use Rattle.words.proofs.Prefixes.{prefix_length}
use Rattle.overlap.specs.Cuts.{len, zlen, xylen, xy_of, z_of}
use Rattle.overlap.proofs.Facts.{length_xy, z_bound}
use Rattle.congruence.specs.Rows.{clean_relation_prefix}
use Rattle.congruence.proofs.ShapeNoPrefix.{prefix_past_tail}
use Rattle.least.specs.Writing.{letter_part, whole_part, other_part, member_part, write_part}
use Rattle.layout.specs.Places.{end_cell}
use Rattle.layout.specs.Layout.{Span, words_in, Checked}
use Rattle.layout.specs.Families.{family_by}
use Rattle.layout.proofs.Placed.{words_length, row_inside}
use Rattle.sites.specs.declared.Site.{Site}
use Rattle.sites.specs.Sites.{site_of}
use Rattle.sites.proofs.Sites.{Lies}
use Rattle.sites.proofs.CleanPrefixes.{clean_prefix}
use Rattle.moves.specs.declared.Mark.{Mark}
use Rattle.moves.specs.State.{placed_word, placed_mark, WordFits}
use Rattle.moves.specs.Drops.{held_empty}
use Rattle.parts.specs.declared.Hint.{Hint}
use Rattle.parts.specs.declared.Source.{Source}
use Rattle.parts.specs.declared.LeastState.{LeastState}
use Rattle.parts.specs.declared.Stage.{Stage}
use Rattle.parts.specs.declared.Stage.TheVariants as Stages
use Rattle.parts.specs.declared.Choice.{Choice}
use Rattle.parts.specs.State.{HintRight, LeastReady, Makes, PartMade}
use Rattle.parts.specs.Choices.{ToldRight, ChoiceMade, hint_of, source_behind, rest_state, own_stage}
use Rattle.members.specs.Asked.{WordAsked}
use Rattle.parts.specs.Asked.{LetterAsked, PlacesSmall, CleanAsked, RestFound, ChoiceFound, ApartFound, MemberFound, WholeFound, OtherFound}
use Rattle.parts.proofs.Letters.{some_of}
use Rattle.parts.proofs.Standing.{facts, site_lies, go_makes, empty_letters, empty_mark, bare_stands, found_small, found_written, found_source, found_lighter}

pub own_made : (s : Site) (m : Mark) (k : ℕ) (t : Option Bool) (c : Source) (o : Option Hint) (n : LeastState) → c ≡ source_behind s m s.tail → o ≡ hint_of s t
    → n ≡ rest_state k (record { at = 0; to = 0 }) o → Stages.Go c n ≡ own_stage s m k t
unfolding own_stage
own_made s m k t c o n e f g = rw (e, g, f)

pub ruleset owns = (own_made, rules)

-- what follows X and Y
module _ (text table : List ℕ) (n : ℕ) (given : Word) (s : LeastState) (i : ℕ) (a : CleanAsked text table n given s i) where
  checked : Checked text table n
  checked = a.ready.ready.grouped.checked

  standing : WordFits text (words_in text table n) given s.word
  standing = a.ready.standing.word

  pub behind_room : end_cell i < length table
  behind_room = row_inside text table n checked.laid i a.there

  pub behind_up : s.word.at ≤ s.word.to
  behind_up = standing.up

  module _ (own : Site) (e : own ≡ site_of table i) where
    own_lies : Lies text (words_in text table n) i own
    own_lies = site_lies text table n checked i a.there own e

    begins : is_prefix (xy_of (words_in text table n) i) (placed_word text given s.word) ≡ true
    begins = clean_prefix (words_in text table n) (placed_word text given s.word) i a.clean own_lies.known

    head_long : length (part text s.word.at s.word.to) ≡ s.word.to - s.word.at
    head_long = part_length text s.word.at s.word.to standing.inside

    past : s.word.to - s.word.at < xylen (words_in text table n) i
    past =
        let l = head_long in
        let p = prefix_past_tail (words_in text table n) (facts text table n checked) (part text s.word.at s.word.to) (drop s.word.from given) i standing.no_prefix own_lies.known begins in
        omega (arith, l, p)

    reach : xylen (words_in text table n) i ≤ s.word.to - s.word.at + (length given - s.word.from)
    reach =
        let p = prefix_length (xy_of (words_in text table n) i) (placed_word text given s.word) begins in
        let x = length_xy (words_in text table n) i in
        let l = head_long in
        let b = length-append (part text s.word.at s.word.to) (drop s.word.from given) in
        let d = length-drop s.word.from given in
        omega (arith, p, x, l, b, d)

    pub behind_tail : own.start ≤ own.tail
    behind_tail = let y = own_lies in omega (arith, y.first, y.second)

    pub behind_past : s.word.to - s.word.at ≤ own.tail - own.start
    behind_past = let p = past in let y = own_lies.long_xy in omega (arith, p, y)

    pub behind_fits : Fits w64 (s.word.from + (own.tail - own.start - (s.word.to - s.word.at)))
    behind_fits =
        let r = reach in
        let y = own_lies.long_xy in
        let g = a.ready.short in
        let w = standing.within in
        omega (arith, r, y, g, w)

    pub behind_found : RestFound text table n given s i (s.word.from + (own.tail - own.start - (s.word.to - s.word.at)))
    behind_found =
        let p = past in
        let r = reach in
        let y = own_lies.long_xy in
        let l = head_long in
        let w = standing.within in
        let d : s.word.from + (xylen (words_in text table n) i - length (part text s.word.at s.word.to)) ≡ s.word.from + (own.tail - own.start - (s.word.to - s.word.at)) = omega (arith, l, y) in
        record {
          asked = a;
          rest = drop_past (part text s.word.at s.word.to) (drop s.word.from given) (xylen (words_in text table n) i) (omega (arith, l, p))
              ∙ drop-drop (xylen (words_in text table n) i - length (part text s.word.at s.word.to)) s.word.from given ∙ ap (λ m. drop m given) d;
          later = omega (arith, p, y);
          within = omega (arith, r, y, w);
        }

pub ruleset behinds = (behind_room, behind_up, behind_tail, behind_past, behind_fits, behind_found, rules)

-- what is told of Z of i is known of the word behind X and Y
hint_of_told : (text : List ℕ) (B : List Word) (fam : ℕ → ℕ) (given : Word) (i k : ℕ) (own : Site) → Lies text B i own → (t : Option Bool) → ToldRight B fam given i k t
    → HintRight text B fam given (record { at = 0; to = 0; from = k }) (hint_of own t)
unfolding hint_of
hint_of_told text B fam given i k own y None r = tt
hint_of_told text B fam given i k own y (Some b) r =
    record { bare = omega arith; mark = record { up = y.third; inside = y.inside; short = omega (arith, y.first, y.second, y.short) }; told = rw (← y.z) r }

-- the part by the chosen member
module _ (text table : List ℕ) (n : ℕ) (given : Word) (s : LeastState) (i k : ℕ) (c : Choice) (f : ChoiceFound text table n given s i k c) where
  pub member_room : end_cell i < length table
  member_room = row_inside text table n f.found.asked.ready.ready.grouped.checked.laid i f.found.asked.there

  pub member_none : n ≤ c.member
      → Makes text (words_in text table n) (family_by table n) given s (member_part (words_in text table n) (family_by table n) i c.member (placed_mark text s.mark) (placed_word text given s.word)) None
  unfolding member_part
  member_none h = rw (le-leb (length (words_in text table n)) c.member (rw (words_length text table n) h)) (record { same = refl; stands = tt })

  module _ (own : Site) (e : own ≡ site_of table i) where
    i_lies : Lies text (words_in text table n) i own
    i_lies = site_lies text table n f.found.asked.ready.ready.grouped.checked i f.found.asked.there own e

    pub member_span : Span text own.tail own.stop
    member_span = record { upwards = i_lies.third; inside = i_lies.inside }

    pub member_up : own.tail ≤ own.stop
    member_up = i_lies.third

    pub member_fits : Fits w64 (k + (own.stop - own.tail))
    member_fits =
        let y = i_lies in
        let w = f.found.within in
        let g = f.found.asked.ready.short in
        let t = f.found.asked.ready.ready.text_short in
        omega (arith, y.inside, w, g, t)

    z_long : own.stop - own.tail ≡ zlen (words_in text table n) i
    z_long = let y = i_lies in let b = z_bound (words_in text table n) i in omega (arith, y.long, y.long_xy, y.first, y.second, y.third, b)

    module _ (h : c.member < n) where
      member_known : c.member < length (words_in text table n)
      member_known = rw (words_length text table n) h

      member : MemberFound text table n given s i k c.member
      member = record { found = f.found; member = f.made.member; known = h }

      module _ (x : Bool) (g : x ≡ is_prefix (part text own.tail own.stop) (drop k given)) where
        starts : is_prefix (z_of (words_in text table n) i) (drop k given) ≡ x
        starts = rw i_lies.z (sym g)

        module _ (t : x ≡ true) where
          pub member_whole : WholeFound text table n given s i c.member (k + (own.stop - own.tail))
          member_whole = record { before = k; chosen = member; whole = starts ∙ t; place = let z = z_long in omega (arith, z) }

          behind_word : drop (len (words_in text table n) i) (placed_word text given s.word) ≡ drop (k + (own.stop - own.tail)) given
          behind_word =
              let b = z_bound (words_in text table n) i in
              let d : xylen (words_in text table n) i + zlen (words_in text table n) i ≡ len (words_in text table n) i = omega (arith, b) in
              sym (ap (λ m. drop m (placed_word text given s.word)) d)
              ∙ sym (drop-drop (zlen (words_in text table n) i) (xylen (words_in text table n) i) (placed_word text given s.word))
              ∙ ap (drop (zlen (words_in text table n) i)) f.found.rest ∙ drop-drop (zlen (words_in text table n) i) k given ∙ rw z_long

          pub member_wholed : (r : Stage) → Makes text (words_in text table n) (family_by table n) given s (whole_part (words_in text table n) (family_by table n) i c.member (placed_mark text s.mark) (drop (k + (own.stop - own.tail)) given)) (Some r)
              → Makes text (words_in text table n) (family_by table n) given s (member_part (words_in text table n) (family_by table n) i c.member (placed_mark text s.mark) (placed_word text given s.word)) (Some r)
          unfolding member_part
          member_wholed r m = rw (lt-leb (length (words_in text table n)) c.member member_known, f.found.rest, starts, t, behind_word) m

        pub member_apart : x ≡ false → ApartFound text table n given s i k c
        member_apart t = record { choice = f; known = h; apart = starts ∙ t }

pub ruleset members = (member_room, member_none, member_span, member_up, member_fits, member_whole, member_wholed, member_apart, rules)

-- the part where Z of i does not follow
module _ (text table : List ℕ) (n : ℕ) (given : Word) (s : LeastState) (i k : ℕ) (c : Choice) (f : ApartFound text table n given s i k c) where
  apart_known : c.member < length (words_in text table n)
  apart_known = rw (words_length text table n) f.known

  chosen : MemberFound text table n given s i k c.member
  chosen = record { found = f.choice.found; member = f.choice.made.member; known = f.known }

  pub apart_room : end_cell i < length table
  apart_room = row_inside text table n f.choice.found.asked.ready.ready.grouped.checked.laid i f.choice.found.asked.there

  module _ (q : c.member ≡ i) (own : Site) (e : own ≡ site_of table i) where
    own_is : own ≡ site_of table c.member
    own_is = rw q e

    pub apart_small : PlacesSmall own s.mark
    apart_small = found_small text table n given s i k c.member chosen own own_is

    pub apart_own : (r : Stage) → r ≡ own_stage own s.mark k c.told
        → Makes text (words_in text table n) (family_by table n) given s (member_part (words_in text table n) (family_by table n) i c.member (placed_mark text s.mark) (placed_word text given s.word)) (Some r)
    unfolding member_part own_stage rest_state
    apart_own r er =
        let ch = f.choice.found.asked.ready.ready.grouped.checked in
        let y = site_lies text table n ch i f.choice.found.asked.there own e in
        rw (lt-leb (length (words_in text table n)) c.member apart_known, f.choice.found.rest, f.apart, eq-eqb c.member i q, er)
        (go_makes text (words_in text table n) (family_by table n) given s (source_behind own s.mark own.tail)
        (record { word = record { at = 0; to = 0; from = k }; mark = record { at = 0; to = 0 }; hint = hint_of own c.told }) _ _ _
        (sym (found_written text table n given s i k c.member chosen own own_is (xy_of (words_in text table n) i) own.tail y.xy))
        refl
        refl
        (record {
          source = found_source text table n given s i k c.member chosen own own_is own.tail (omega (arith, y.second)) y.third;
          stands = record {
            word = bare_stands text table n ch given k f.choice.found.within;
            low = empty_letters;
            mark = empty_mark text;
            hint = hint_of_told text (words_in text table n) (family_by table n) given i k own y c.told f.choice.made.told;
          };
          lighter = found_lighter text table n given s i k c.member chosen k (omega arith) f.choice.found.within (record { at = 0; to = 0; from = k }) refl (omega arith);
        }))

  module _ (q : c.member ≡ i → ⊥) where
    pub apart_other : OtherFound text table n given s i c.member k
    apart_other = record { chosen = chosen; apart = f.apart; differs = q }

    pub apart_othered : (r : Stage) → Makes text (words_in text table n) (family_by table n) given s (other_part (words_in text table n) i c.member (placed_mark text s.mark) (drop k given)) (Some r)
        → Makes text (words_in text table n) (family_by table n) given s (member_part (words_in text table n) (family_by table n) i c.member (placed_mark text s.mark) (placed_word text given s.word)) (Some r)
    unfolding member_part
    apart_othered r m = rw (lt-leb (length (words_in text table n)) c.member apart_known, f.choice.found.rest, f.apart, ne_eqb c.member i q) m

pub ruleset aparts = (apart_room, apart_small, apart_own, apart_other, apart_othered, rules)

-- the round with a clean relation prefix
module _ (text table : List ℕ) (n : ℕ) (given : Word) (s : LeastState) (i k : ℕ) (c : Choice) (f : RestFound text table n given s i k) (m : ChoiceMade text table n given s.mark i k c) where
  pub relation_found : ChoiceFound text table n given s i k c
  relation_found = record { found = f; made = m }

  relation_some : is_empty (placed_word text given s.word) ≡ false
  relation_some =
      let y = site_lies text table n f.asked.ready.ready.grouped.checked i f.asked.there (site_of table i) refl in
      let p = prefix_length (xy_of (words_in text table n) i) (placed_word text given s.word) (clean_prefix (words_in text table n) (placed_word text given s.word) i f.asked.clean y.known) in
      let x = length_xy (words_in text table n) i in
      some_of (placed_word text given s.word) (omega (arith, p, x, y.long_xy, y.first, y.second))

  pub relation_made : (r : Option Stage) → Makes text (words_in text table n) (family_by table n) given s (member_part (words_in text table n) (family_by table n) i c.member (placed_mark text s.mark) (placed_word text given s.word)) r
      → PartMade text table n given s r
  unfolding write_part
  relation_made r h =
      let b = words_length text table n in
      let t = f.asked.there in
      record {
        same = rw (relation_some, ← f.asked.clean, lt-leb (length (words_in text table n)) i (rw b t), f.rest, ← m.member) h.same;
        stands = h.stands;
      }

pub ruleset relations = (relation_found, relation_made, rules)

-- one round
module _ (text table : List ℕ) (n : ℕ) (given : Word) (s : LeastState) (a : LeastReady text table n given s) (x : Bool) (e : x ≡ held_empty (length given) s.word) where
  module _ (h : x ≡ true) where
    word_empty : placed_word text given s.word ≡ []
    unfolding held_empty
    word_empty = by_cases (dec_lt s.word.at s.word.to)
        (λ g. absurd (true≢false (sym (rw (lt-ltb _ _ g) at (sym e ∙ h)))))
        (λ g.
        let g' : s.word.to ≤ s.word.at = omega (arith, g) in
        let l = leb-true (length given) s.word.from (rw (le-ltb _ _ g') at (sym e ∙ h)) in
        rw (part_none text s.word.at s.word.to g', drop_of_length-le given l))

    pub round_none : s.mark.at < s.mark.to → PartMade text table n given s None
    unfolding write_part
    round_none g =
        let p = part_length text s.mark.at s.mark.to a.standing.mark.inside in
        record { same = rw (word_empty, some_of (placed_mark text s.mark) (omega (arith, p, g))); stands = tt }

    pub round_end : s.mark.to ≤ s.mark.at → PartMade text table n given s (Some Stages.End)
    unfolding write_part
    round_end g = record { same = rw (word_empty, part_none text s.mark.at s.mark.to g); stands = tt }

  module _ (h : x ≡ false) where
    pub round_word : WordAsked text table n given s.word
    round_word = record { checked = a.ready.grouped.checked; fits = a.standing.word; some = sym e ∙ h }

    word_some : is_empty (placed_word text given s.word) ≡ false
    unfolding held_empty
    word_some =
        let p = part_length text s.word.at s.word.to a.standing.word.inside in
        let b = length-append (part text s.word.at s.word.to) (drop s.word.from given) in
        let d = length-drop s.word.from given in
        some_of (placed_word text given s.word) (by_cases (dec_lt s.word.at s.word.to) (λ g. omega (arith, g, p, b))
        (λ g.
        let g' : s.word.to ≤ s.word.at = omega (arith, g) in
        let r = leb-false (length given) s.word.from (rw (le-ltb _ _ g') at (sym e ∙ h)) in
        omega (arith, r, b, d)))

    module _ (i : ℕ) (f : i ≡ clean_relation_prefix (words_in text table n) (placed_word text given s.word)) where
      pub round_letter : n ≤ i → LetterAsked text table n given s
      round_letter g = let b = words_length text table n in record { ready = a; some = sym e ∙ h; none = omega (arith, b, f, g) }

      pub round_clean : i < n → CleanAsked text table n given s i
      round_clean g = record { ready = a; there = g; clean = f }

      pub round_lettered : n ≤ i → (r : Option Stage) → Makes text (words_in text table n) (family_by table n) given s (letter_part (placed_mark text s.mark) (placed_word text given s.word)) r → PartMade text table n given s r
      unfolding write_part
      round_lettered g r m =
          let b = words_length text table n in
          record {
            same = rw (word_some, le-leb (length (words_in text table n)) (clean_relation_prefix (words_in text table n) (placed_word text given s.word)) (omega (arith, b, f, g))) m.same;
            stands = m.stands;
          }

pub ruleset parts_made = (round_none, round_end, round_word, round_letter, round_clean, round_lettered, rules)
