-- A law for each way that a walk can go.
use Prim.Native.Nat.{ℕ, ◌+◌, ◌-◌, ◌≤◌, ◌<◌, min}
use mathlib.Core.Bool.{Bool, true, false}
use mathlib.Core.Logic.{by_cases}
use mathlib.Core.List.{List}
use mathlib.Core.Path.{◌≡◌, refl, sym, ap, ◌∙◌, subst}
use native.Mathlib.Omega.{arith}
use native.Mathlib.Decide.{dec_lt}
use borrow.Author.Rules.{rules}
use mir.Syntax.{w64}
use mir.Val.{Fits}
use lib.ListN.{length, take, drop, length-drop}
use lib.Seq.{drop-drop}
use Rattle.words.specs.Words.{Word, is_prefix, common_prefix, part}
use Rattle.words.proofs.Parts.{part_length, part_drop}
use Rattle.words.proofs.Prefixes.{prefix_length}
use Rattle.words.proofs.Commons.{common_within, common_prefix_lem, common_no_prefix}
use Rattle.overlap.specs.Cuts.{xylen, xy_of}
use Rattle.overlap.proofs.Facts.{length_xy, rigid_of_c4}
use Rattle.congruence.specs.Rows.{clean_relation_prefix, marked_by_any}
use Rattle.least.specs.Possible.{possible}
use Rattle.least.proofs.Possible.{possible_front, possible_turn, possible_unmarked}
use Rattle.layout.specs.Places.{end_cell}
use Rattle.layout.specs.Layout.{words_in, Checked}
use Rattle.layout.specs.Families.{family_by, GroupedWord}
use Rattle.layout.proofs.Placed.{words_length}
use Rattle.joined.specs.Joined.{Agreed}
use Rattle.sites.specs.declared.Site.{Site}
use Rattle.sites.specs.Sites.{site_of}
use Rattle.sites.proofs.Sites.{Lies}
use Rattle.sites.proofs.CleanPrefixes.{clean_prefix}
use Rattle.kin.proofs.Laws.{grouped_room, grouped_lies, rest_lent}
use Rattle.walks.specs.declared.Leg.{Leg}
use Rattle.walks.specs.declared.Leg.TheVariants as Legs
use Rattle.walks.specs.Walks.{PlaceAsked, PlacesAsked, FirstClean, Walking, Turning, Parting, Further, LegStands, LegMade}
use Rattle.walks.proofs.Legs.{prefix_rest, passed, ends}

-- the clean relation prefix at a place
module _ (text table : List ℕ) (n : ℕ) (given : Word) (q : ℕ) (a : PlaceAsked text table n given q) where
  pub place_checked : Checked text table n
  place_checked = a.checked

  pub place_within : q ≤ length given
  place_within = a.within

  pub place_clean : (r : ℕ) → r ≡ clean_relation_prefix (words_in text table n) (take (length given - q) (drop q given)) → r ≡ clean_relation_prefix (words_in text table n) (drop q given)
  place_clean r e = rw (rest_lent given q) at e

pub ruleset places = (place_checked, place_within, place_clean, rules)

-- the search for a clean relation prefix has come to place q
pub record Seeking (text table : List ℕ) (n : ℕ) (given : Word) (from to q : ℕ) : Type 0 where
  pub asked : PlacesAsked text table n given from to
  pub low : from ≤ q
  pub high : q ≤ to
  pub none : (k : ℕ) → from ≤ k → k < q → length (words_in text table n) ≤ clean_relation_prefix (words_in text table n) (drop k given)

module _ (text table : List ℕ) (n : ℕ) (given : Word) (from to : ℕ) where
  pub seek_start : PlacesAsked text table n given from to → Seeking text table n given from to from
  seek_start a = record { asked = a; low = omega arith; high = a.up; none = λ k l h. absurd (omega arith) }

  module _ (q : ℕ) (s : Seeking text table n given from to q) where
    pub seek_place : q < to → PlaceAsked text table n given q
    seek_place h = record { checked = s.asked.checked; within = let w = s.asked.within in omega arith }

    pub seek_found : (i : ℕ) → i ≡ clean_relation_prefix (words_in text table n) (drop q given) → i < n → FirstClean (words_in text table n) given from to q
    seek_found i e l =
        let b = words_length text table n in
        record { low = s.low; high = s.high; none = s.none; some = λ _. omega (arith, e, l, b) }

    pub seek_more : (i : ℕ) → i ≡ clean_relation_prefix (words_in text table n) (drop q given) → n ≤ i → q < to → Seeking text table n given from to (q + 1)
    seek_more i e l h =
        let b = words_length text table n in
        let z = s.low in
        record {
          asked = s.asked;
          low = omega arith;
          high = omega arith;
          none = λ k f g. by_cases (dec_lt k q) (λ c. s.none k f c) (λ c.
              subst (λ (m : ℕ). length (words_in text table n) ≤ clean_relation_prefix (words_in text table n) (drop m given)) {x = q} {y = k} (omega arith) (omega (arith, e, l, b)));
        }

    pub seek_end : to ≤ q → FirstClean (words_in text table n) given from to to
    seek_end h = record { low = s.asked.up; high = omega arith; none = λ k f g. s.none k f (omega arith); some = λ l. absurd (omega arith) }

pub ruleset seeks = (seek_start, seek_place, seek_found, seek_more, seek_end, rules)

-- a leg that begins with a clean relation prefix, that of relation word i
module _ (text table : List ℕ) (n : ℕ) (given : Word) (at to from : ℕ) (t : Turning text table n given at to from) where
  pub turn_asked : PlaceAsked text table n given from
  turn_asked = record { checked = t.walking.ready.grouped.checked; within = t.walking.within }

  pub turn_up : at ≤ to
  turn_up = t.walking.span.upwards

  pub turn_inside : to ≤ length text
  turn_inside = t.walking.span.inside

  module _ (i : ℕ) (e : i ≡ clean_relation_prefix (words_in text table n) (drop from given)) where
    pub turn_word : GroupedWord text table n i
    turn_word = record { grouped = t.walking.ready.grouped; there = let b = words_length text table n in let c = t.clean in omega (arith, b, c, e) }

    pub turn_room : end_cell i < length table
    turn_room = grouped_room text table n i turn_word

    module _ (own : Site) (eo : own ≡ site_of table i) where
      own_lies : Lies text (words_in text table n) i own
      own_lies = grouped_lies text table n i turn_word own eo

      pub turn_tail : own.start ≤ own.tail
      turn_tail = let l = own_lies in omega (arith, l.first, l.second)

      -- X and Y stand in the given word
      behind_xy : from + xylen (words_in text table n) i ≤ length given
      behind_xy =
          let l = own_lies in
          let x = length_xy (words_in text table n) i in
          let p = prefix_length (xy_of (words_in text table n) i) (drop from given) (clean_prefix (words_in text table n) (drop from given) i e l.known) in
          let d = length-drop from given in
          omega (arith, l.long_xy, l.first, l.second, x, p, d)

      pub turn_fits : Fits w64 (from + (own.tail - own.start))
      turn_fits = let b = behind_xy in let l = own_lies.long_xy in let s = t.walking.short in omega (arith, b, l, s)

    module _ (x : Bool) (g : x ≡ marked_by_any (words_in text table n) (family_by table n) i (part text at to)) where
      pub turn_next : x ≡ true → (own : Site) → own ≡ site_of table i → LegMade text table n given at to from (Legs.Next own.tail own.stop (from + (own.tail - own.start)))
      turn_next h own eo =
          let l = own_lies own eo in
          let R = rigid_of_c4 (words_in text table n) t.walking.ready.grouped.checked.accepted in
          let b = behind_xy own eo in
          record {
            same = sym (possible_turn R (family_by table n) (part text at to) (drop from given) i t.apart e l.known (sym g ∙ h) ∙ rw (l.z, drop-drop, l.long_xy));
            stands = record {
              span = record { upwards = l.third; inside = l.inside };
              later = omega (arith, l.first, l.second);
              within = omega (arith, b, l.long_xy);
            };
          }

      pub turn_no : x ≡ false → LegMade text table n given at to from Legs.No
      turn_no h =
          let k : i < length (words_in text table n) = rw (words_length text table n) turn_word.there in
          record { same = sym (possible_unmarked (words_in text table n) (family_by table n) (part text at to) (drop from given) i t.apart e k (sym g ∙ h)); stands = tt }

pub ruleset turns = (turn_asked, turn_up, turn_inside, turn_word, turn_room, turn_tail, turn_fits, turn_next, turn_no, rules)

-- one leg: whether the mark is a prefix
module _ (text table : List ℕ) (n : ℕ) (given : Word) (at to from : ℕ) (w : Walking text table n given at to from) where
  pub leg_agreed : Agreed text at to given from 0
  leg_agreed = record { span = w.span; passed = omega arith }

  pub leg_up : at ≤ to
  leg_up = w.span.upwards

  module _ (m : ℕ) (e : m ≡ common_prefix (part text at to) (drop from given)) where
    pub leg_yes : m ≡ to - at → LegMade text table n given at to from Legs.Yes
    leg_yes h =
        let p = part_length text at to w.span.inside in
        record { same = sym (possible_front (words_in text table n) (family_by table n) (part text at to) (drop from given) (common_prefix_lem (part text at to) (drop from given) (omega (arith, h, e, p)))); stands = tt }

    pub leg_parting : (m ≡ to - at → ⊥) → Parting text table n given at to from m
    leg_parting d = record { walking = w; common = e; some = d }

pub ruleset legs = (leg_agreed, leg_up, leg_yes, leg_parting, rules)

-- a leg behind whose first m letters the mark and the word part
module _ (text table : List ℕ) (n : ℕ) (given : Word) (at to from m : ℕ) (w : Parting text table n given at to from m) where
  bounds : (m < to - at) × (m ≤ length given - from) × (length (part text at to) ≡ to - at) × (length (drop from given) ≡ length given - from)
  bounds =
      let c = common_within (part text at to) (drop from given) in
      let p = part_length text at to w.walking.span.inside in
      let d = length-drop from given in
      let e = w.common in
      let g = w.some in
      (omega (arith, c, p, e, g), omega (arith, c, d, e), p, d)

  pub part_fits : Fits w64 (from + m)
  part_fits = let b = bounds in let s = w.walking.short in let l = w.walking.within in omega (arith, b.1, s, l)

  pub part_fits_next : Fits w64 (from + m + 1)
  part_fits_next = let b = bounds in let s = w.walking.short in let l = w.walking.within in omega (arith, b.1, s, l)

  apart : is_prefix (part text at to) (drop from given) ≡ false
  apart = let b = bounds in let e = w.common in common_no_prefix (part text at to) (drop from given) (omega (arith, b.0, b.2, e))

  module _ (end : ℕ) (f : end ≡ min (from + m + 1) (length given)) where
    pub part_asked : PlacesAsked text table n given from end
    part_asked = let l = w.walking.within in record { checked = w.walking.ready.grouped.checked; up = omega (arith, l, f); within = omega (arith, f) }

    module _ (q : ℕ) (c : FirstClean (words_in text table n) given from end q) where
      -- no clean relation prefix begins before q
      unclean : (k : ℕ) → from + k < q → length (words_in text table n) ≤ clean_relation_prefix (words_in text table n) (drop k (drop from given))
      unclean k l = rw drop-drop (c.none (from + k) (omega arith) l)

      pub part_from : from ≤ q
      part_from = c.low

      pub part_mark_fits : Fits w64 (at + (q - from))
      part_mark_fits =
          let s = w.walking.short in
          let t = w.walking.ready.text_short in
          let u = w.walking.span.inside in
          let v = w.walking.span.upwards in
          let k = c.high in
          omega (arith, s, t, u, v, f, k)

      -- the mark and the word without the letters before q
      module _ (h : q < end) where
        along : q - from ≤ m
        along = let z = c.low in omega (arith, h, f, z)

        mark_rest : drop (q - from) (part text at to) ≡ part text (at + (q - from)) to
        mark_rest = part_drop text at to (q - from)

        word_rest : drop (q - from) (drop from given) ≡ drop q given
        word_rest = drop-drop (q - from) from given ∙ ap (λ k. drop k given) {x = from + (q - from)} {y = q} (let z = c.low in omega (arith, z))

        pub part_turning : Turning text table n given (at + (q - from)) to q
        part_turning =
            let b = bounds in
            let a = along in
            let k = c.high in
            let e = w.common in
            record {
              walking = record {
                ready = w.walking.ready;
                short = w.walking.short;
                span = record { upwards = let v = w.walking.span.upwards in omega (arith, a, b.0, v); inside = w.walking.span.inside };
                within = omega (arith, k, f);
              };
              apart = rw (← mark_rest, ← word_rest) (prefix_rest (part text at to) (drop from given) (q - from) (omega (arith, a, e)) ∙ apart);
              clean = c.some h;
            }

        stands_later : (leg : Leg) → LegStands text given q leg → LegStands text given from leg
        stands_later Legs.Yes s = tt
        stands_later Legs.No s = tt
        stands_later (Legs.Next x y z) s = record { span = s.span; later = let l = s.later in let g = c.low in omega (arith, l, g); within = s.within }

        pub part_turned : (leg : Leg) → LegMade text table n given (at + (q - from)) to q leg → LegMade text table n given at to from leg
        part_turned leg g =
            let a = along in
            let e = w.common in
            record {
              same = g.same ∙ sym (passed (words_in text table n) (family_by table n) (part text at to) (drop from given) (q - from) apart (omega (arith, a, e))
                  (λ k l. unclean k (let z = c.low in omega (arith, l, z))) ∙ rw (mark_rest, word_rest));
              stands = stands_later leg g.stands;
            }

      pub part_no : end ≤ q → LegMade text table n given at to from Legs.No
      part_no h =
          let b = bounds in
          record {
            same = sym (ends (words_in text table n) (family_by table n) (part text at to) (drop from given) m w.common (omega (arith, b.0, b.2))
                (λ k l g. unclean k (omega (arith, l, g, b.3, f, h))));
            stands = tt;
          }

pub ruleset partings = (part_fits, part_fits_next, part_asked, part_from, part_mark_fits, part_turning, part_turned, part_no, rules)

-- the walk has come to the mark text[a..b] and place q
pub record WalkAt (text table : List ℕ) (n : ℕ) (given : Word) (at to from a b q : ℕ) : Type 0 where
  pub walking : Walking text table n given a b q
  pub same : possible (words_in text table n) (family_by table n) (part text a b) (drop q given) ≡ possible (words_in text table n) (family_by table n) (part text at to) (drop from given)

pub walk_start : (text table : List ℕ) (n : ℕ) (given : Word) (at to from : ℕ) → Walking text table n given at to from → WalkAt text table n given at to from at to from
walk_start text table n given at to from w = record { walking = w; same = refl }

module _ (text table : List ℕ) (n : ℕ) (given : Word) (at to from a b q : ℕ) (w : WalkAt text table n given at to from a b q) where
  pub walk_walking : Walking text table n given a b q
  walk_walking = w.walking

  module _ (leg : Leg) (g : LegMade text table n given a b q leg) where
    pub walk_yes : leg ≡ Legs.Yes → true ≡ possible (words_in text table n) (family_by table n) (part text at to) (drop from given)
    walk_yes e = (rw e at g.same) ∙ w.same

    pub walk_no : leg ≡ Legs.No → false ≡ possible (words_in text table n) (family_by table n) (part text at to) (drop from given)
    walk_no e = (rw e at g.same) ∙ w.same

    module _ (x y z : ℕ) (e : leg ≡ Legs.Next x y z) where
      further : Further text given q x y z
      further = subst (LegStands text given q) e g.stands

      pub walk_more : WalkAt text table n given at to from x y z
      walk_more = record {
        walking = record { ready = w.walking.ready; short = w.walking.short; span = further.span; within = further.within };
        same = (rw e at g.same) ∙ w.same;
      }

      pub walk_less : length given - z < length given - q
      walk_less = let f = further.later in let h = further.within in omega (arith, f, h)

pub ruleset walks = (walk_start, walk_walking, walk_yes, walk_no, walk_more, walk_less, rules)
