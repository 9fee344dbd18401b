-- A law for each way that the code can go which reads where relation words lie.
use Prim.Native.Nat.{ℕ, ◌+◌, ◌-◌, ◌≤◌, ◌<◌}
use mathlib.Core.Bool.{Bool, true, false, ◌&&◌}
use mathlib.Core.List.{List}
use mathlib.Core.Path.{◌≡◌, refl, sym, ap, ◌∙◌, subst}
use native.Mathlib.Omega.{arith}
use borrow.Author.Rules.{rules}
use mir.Syntax.{w64}
use mir.Val.{Fits}
use lib.Dec.{leb, ltb}
use lib.ListN.{length}
use borrow.Author.Tests.{le-leb, lt-leb}
use Rattle.words.specs.Words.{Word, is_prefix, part}
use Rattle.words.proofs.Tests.{false_of}
use Rattle.words.proofs.Lists.{no_letters}
use Rattle.words.proofs.Parts.{part_length, part_take}
use Rattle.words.proofs.Prefixes.{prefix_length, prefix_swap, prefix_take}
use Rattle.words.proofs.Searching.{NoneBelow, none_more, any_of, any_none}
use Rattle.overlap.proofs.Facts.{rigid_of_c4}
use Rattle.congruence.specs.Rows.{has_relation_prefix_at, has_relation_prefix_between, clean_relation_prefix}
use Rattle.layout.specs.Places.{end_cell, table_room}
use Rattle.layout.specs.Layout.{start_of, x_end_of, z_start_of, end_of, Span, words_in, Checked}
use Rattle.layout.proofs.Placed.{words_length}
use Rattle.index.specs.Index.{relation_prefix_at}
use Rattle.index.proofs.PrefixAt.{stands_prefix}
use Rattle.index.proofs.Seeking.{place_fits}
use Rattle.sites.specs.declared.Site.{Site}
use Rattle.sites.specs.Sites.{site_of, SiteInText, KnownWord}
use Rattle.sites.specs.Prefixes.{unclean_prefix}
use Rattle.sites.proofs.Sites.{lies, site_in_text}
use Rattle.sites.proofs.FirstLetters.{none_under_letter, none_past_end}
use Rattle.sites.proofs.CleanPrefixes.{clean_none, clean_between, clean_here}

-- the parts of a relation word lie in the text
module _ (text : List ℕ) (s : Site) (h : SiteInText text s) where
  pub span_xy : Span text s.start s.tail
  span_xy = record { upwards = let a = h.first in let b = h.second in omega arith; inside = let a = h.third in let b = h.inside in omega arith }

  pub span_z : Span text s.tail s.stop
  span_z = record { upwards = h.third; inside = h.inside }

  pub span_whole : Span text s.start s.stop
  span_whole = record { upwards = let a = h.first in let b = h.second in let c = h.third in omega arith; inside = h.inside }

  pub tail_after : s.start ≤ s.tail
  tail_after = let a = h.first in let b = h.second in omega arith

  pub stop_after : s.start ≤ s.stop
  stop_after = let a = h.first in let b = h.second in let c = h.third in omega arith

pub ruleset spans = (span_xy, span_z, span_whole, tail_after, stop_after)

-- four positions
pub site_read : (table : List ℕ) (i a b c d : ℕ) → a ≡ start_of table i → b ≡ x_end_of table i → c ≡ z_start_of table i → d ≡ end_of table i
    → record { start = a; middle = b; tail = c; stop = d } ≡ site_of table i
unfolding site_of
site_read table i a b c d e f g h = rw (e, f, g, h)

pub ruleset site_reads = (site_read, rules)

-- the mark and X
module _ (text : List ℕ) (s : Site) (p : Word) (h : SiteInText text s) where
  pub mark_long : s.middle - s.start < length p → false ≡ is_prefix p (part text s.start s.middle)
  mark_long l = sym (false_of (is_prefix p (part text s.start s.middle)) (λ e.
      let f = prefix_length p (part text s.start s.middle) e in
      let a = h.second in
      let b = h.third in
      let c = h.inside in
      let g = part_length text s.start s.middle (omega arith) in
      absurd (omega arith)))

  pub mark_nothing : length p ≡ 0 → true ≡ is_prefix p (part text s.start s.middle)
  unfolding is_prefix
  mark_nothing e = subst (λ (w : Word). true ≡ is_prefix w (part text s.start s.middle)) (sym (no_letters p e)) refl

  module _ (l : length p ≤ s.middle - s.start) where
    pub mark_span : Span text s.start (s.start + length p)
    mark_span =
        let a = h.first in
        let b = h.second in
        let c = h.third in
        let d = h.inside in
        record { upwards = omega arith; inside = omega arith }

    pub mark_all : (r : Bool) → r ≡ is_prefix (part text s.start (s.start + length p)) p → r ≡ is_prefix p (part text s.start s.middle)
    mark_all r e =
        let a = h.first in
        let b = h.second in
        let c = h.third in
        let d = h.inside in
        let g : s.start + length p - s.start ≡ length p = omega arith in
        let k = part_length text s.start (s.start + length p) (omega arith) ∙ g in
        e ∙ prefix_swap (part text s.start (s.start + length p)) p k ∙ ap (is_prefix p) (sym (part_take text s.start s.middle (length p) l))
        ∙ sym (prefix_take p (part text s.start s.middle))

pub ruleset marks = (mark_nothing, mark_long, mark_span, mark_all, spans, rules)

-- X and Y at a place
pub standing_room : (text table : List ℕ) (n : ℕ) → Checked text table n → length table ≡ table_room
standing_room text table n k = k.indexed.room

pub stands_below : (text table : List ℕ) (n : ℕ) (w : Word) (q k : ℕ) → k ≡ relation_prefix_at (words_in text table n) w q → ltb k n ≡ has_relation_prefix_at (words_in text table n) w q
stands_below text table n w q k e = rw (stands_prefix (words_in text table n) w q, ← e, words_length text table n)

pub ruleset standing = (stands_below, none_under_letter, none_past_end, place_fits, standing_room, rules)

-- the search over places: none is found from lo on and below q
pub record Vacant (B : List Word) (w : Word) (lo q : ℕ) : Type 0 where
  pub low : lo ≤ q
  pub none : NoneBelow (λ k. leb lo k && has_relation_prefix_at B w k) q

pub vacant_start : (B : List Word) (w : Word) (lo : ℕ) → Vacant B w lo lo
vacant_start B w lo = record { low = omega arith; none = record { none = λ k h. rw (lt-leb lo k h) } }

module _ (B : List Word) (w : Word) (lo hi q : ℕ) (v : Vacant B w lo q) where
  pub vacant_more : (x : Bool) → x ≡ has_relation_prefix_at B w q → x ≡ false → Vacant B w lo (q + 1)
  vacant_more x e h = record { low = let l = v.low in omega arith; none = none_more (λ k. leb lo k && has_relation_prefix_at B w k) q v.none (rw (le-leb lo q v.low, ← e) h) }

  pub vacant_found : q < hi → (x : Bool) → x ≡ has_relation_prefix_at B w q → x ≡ true → true ≡ has_relation_prefix_between B w lo hi
  unfolding has_relation_prefix_between
  vacant_found l x e h = sym (any_of hi (λ k. leb lo k && has_relation_prefix_at B w k) q l (rw (le-leb lo q v.low, ← e) h))

  pub vacant_end : hi ≤ q → false ≡ has_relation_prefix_between B w lo hi
  unfolding has_relation_prefix_between
  vacant_end l = sym (any_none hi (λ k. leb lo k && has_relation_prefix_at B w k) (λ k h. v.none.none k (omega arith)))

pub ruleset vacants = (vacant_start, vacant_more, vacant_found, vacant_end, rules)

-- the test for a clean relation prefix
module _ (text table : List ℕ) (n i : ℕ) (h : KnownWord text table n i) where
  pub known_room : end_cell i < length table
  known_room = let a = h.checked.laid.few in let b = h.checked.indexed.room in let c = h.there in omega arith

  pub known_checked : Checked text table n
  known_checked = h.checked

  pub known_placed : (s : Site) → s ≡ site_of table i → SiteInText text s
  known_placed s e = rw e (site_in_text text (words_in text table n) i (site_of table i) (lies text table n h.checked i h.there))

  module _ (s : Site) (e : s ≡ site_of table i) where
    pub known_first : s.start ≤ s.middle
    known_first = (known_placed s e).first

    pub known_second : s.start ≤ s.tail
    known_second = tail_after text s (known_placed s e)

    pub known_fits : Fits w64 (s.middle - s.start + 1)
    known_fits = let l = lies text table n h.checked i h.there in rw e (let a = l.second in let b = l.third in let c = l.short in omega arith)

  pub unclean_between : (s : Site) → s ≡ site_of table i → (w : Word) (r : Bool) → r ≡ has_relation_prefix_between (words_in text table n) w (s.middle - s.start + 1) (s.tail - s.start)
      → r ≡ unclean_prefix (words_in text table n) i w
  unfolding unclean_prefix
  unclean_between s e w r f = let l = lies text table n h.checked i h.there in rw (l.long_x, l.long_xy) (rw e at f)

pub ruleset uncleans = (known_room, known_checked, known_first, known_second, known_fits, unclean_between, rules)

-- the clean relation prefix
module _ (text table : List ℕ) (n : ℕ) (c : Checked text table n) (w : Word) (k : ℕ) (e : k ≡ relation_prefix_at (words_in text table n) w 0) where
  pub clean_no_prefix : n ≤ k → n ≡ clean_relation_prefix (words_in text table n) w
  unfolding relation_prefix_at
  clean_no_prefix h =
      let l = words_length text table n in
      sym l ∙ clean_none (words_in text table n) (rigid_of_c4 (words_in text table n) c.accepted) w k e (omega arith)

  module _ (h : k < n) where
    pub clean_known : KnownWord text table n k
    clean_known = record { checked = c; there = h }

    pub clean_not : (x : Bool) → x ≡ unclean_prefix (words_in text table n) k w → x ≡ true → n ≡ clean_relation_prefix (words_in text table n) w
    unfolding unclean_prefix relation_prefix_at
    clean_not x f q =
        let l = words_length text table n in
        sym l ∙ clean_between (words_in text table n) (rigid_of_c4 (words_in text table n) c.accepted) w k e (omega arith) (sym f ∙ q)

    pub clean_one : (x : Bool) → x ≡ unclean_prefix (words_in text table n) k w → x ≡ false → k ≡ clean_relation_prefix (words_in text table n) w
    unfolding unclean_prefix relation_prefix_at
    clean_one x f q =
        let l = words_length text table n in
        clean_here (words_in text table n) (rigid_of_c4 (words_in text table n) c.accepted) w k e (omega arith) (sym f ∙ q)

pub ruleset cleans = (clean_no_prefix, clean_known, clean_not, clean_one, rules)
