-- A law for each way that looking along the members of a family can go.
use Prim.Native.Nat.{ℕ, ◌-◌, ◌*◌, ◌≤◌, ◌<◌}
use mathlib.Core.Bool.{Bool, true, false, and-eq-true_iff}
use mathlib.Core.List.{List, ◌++◌}
use mathlib.Core.Path.{◌≡◌, refl, sym, ap, ◌∙◌, subst}
use native.Mathlib.Omega.{arith}
use borrow.Author.Rules.{rules}
use borrow.Author.Tests.{eq-eqb}
use mir.Syntax.{w64}
use mir.Val.{Fits}
use lib.ListN.{length, take, drop, length-drop}
use lib.Seq.{take_all}
use Rattle.words.specs.Search.{any_below}
use Rattle.words.specs.Words.{Word, is_prefix, part}
use Rattle.words.proofs.Lists.{no_letters}
use Rattle.words.proofs.Parts.{part_length}
use Rattle.words.proofs.Searching.{any_of}
use Rattle.overlap.specs.Cuts.{x_of, z_of}
use Rattle.congruence.specs.Rows.{has_relation_prefix_between, active, marked, marked_by_any}
use Rattle.layout.specs.Places.{end_cell, family_cell, next_cell}
use Rattle.layout.specs.Layout.{words_in, Checked}
use Rattle.layout.specs.Families.{family_at, family_by, next_of, GroupedWord}
use Rattle.layout.proofs.Placed.{words_length, start_bound}
use Rattle.layout.proofs.Links.{kin_test, Along, along_start, along_next, along_some, along_none}
use Rattle.sites.specs.declared.Site.{Site}
use Rattle.sites.specs.Sites.{site_of, SiteInText}
use Rattle.sites.proofs.Sites.{Lies, lies, site_in_text}
use Rattle.kin.specs.Asked.{LinkedWord, RestAsked}

-- a relation word of a checked presentation with families
module _ (text table : List ℕ) (n i : ℕ) (h : GroupedWord text table n i) where
  pub grouped_room : end_cell i < length table
  grouped_room = let a = h.grouped.checked.laid.few in let b = h.grouped.checked.indexed.room in let c = h.there in omega arith

  pub grouped_family_room : family_cell i < length table
  grouped_family_room = let a = h.grouped.checked.laid.few in let b = h.grouped.checked.indexed.room in let c = h.there in omega arith

  pub grouped_next_room : next_cell i < length table
  grouped_next_room = let a = h.grouped.checked.laid.few in let b = h.grouped.checked.indexed.room in let c = h.there in omega arith

  pub grouped_checked : Checked text table n
  grouped_checked = h.grouped.checked

  pub grouped_linked : LinkedWord table n i
  grouped_linked = let c = h.grouped.checked in record { linked = h.grouped.linked; room = c.indexed.room; few = c.laid.few; there = h.there }

  pub grouped_lies : (s : Site) → s ≡ site_of table i → Lies text (words_in text table n) i s
  grouped_lies s e = rw e (lies text table n h.grouped.checked i h.there)

  pub grouped_site : (s : Site) → s ≡ site_of table i → SiteInText text s
  grouped_site s e = site_in_text text (words_in text table n) i s (grouped_lies s e)

  -- the mark and X of one word
  pub mark_here_lem : (p : Word) (s : Site) → s ≡ site_of table i → (r : Bool) → r ≡ is_prefix p (part text s.start s.middle) → r ≡ is_prefix p (x_of (words_in text table n) i)
  mark_here_lem p s e r f = f ∙ ap (is_prefix p) (sym (grouped_lies s e).x)

  -- another word of the presentation
  pub grouped_other : (j : ℕ) → j < n → GroupedWord text table n j
  grouped_other j l = record { grouped = h.grouped; there = l }

pub ruleset grouped = (grouped_room, grouped_family_room, grouped_next_room, grouped_checked, grouped_site, grouped_other)

pub ruleset mark_here = (grouped, mark_here_lem, rules)

-- the members whose X is tried for the mark
abbrev pub mark_test : List ℕ → List ℕ → ℕ → Word → ℕ → Bool
mark_test text table n p j = is_prefix p (x_of (words_in text table n) j)

-- what the loop knows: no member before j has the mark in its X
abbrev pub Unmarked : List ℕ → List ℕ → ℕ → ℕ → Word → ℕ → Type 0
Unmarked text table n i p j = Along table n i (mark_test text table n p) j

module _ (text table : List ℕ) (n i : ℕ) (p : Word) (h : GroupedWord text table n i) where
  -- the search over members, as it stands in the definition
  marked_search : (r : Bool) → any_below n (kin_test table n i (mark_test text table n p)) ≡ r → r ≡ marked_by_any (words_in text table n) (family_by table n) i p
  unfolding marked_by_any marked
  marked_search r e = sym (rw (words_length text table n) e)

  -- the word itself is of its family
  pub marked_own : (x : Bool) → x ≡ is_prefix p (x_of (words_in text table n) i) → x ≡ true → true ≡ marked_by_any (words_in text table n) (family_by table n) i p
  marked_own x e t =
      marked_search true (any_of n (kin_test table n i (mark_test text table n p)) i h.there (simp and-eq-true_iff (eq-eqb (family_by table n i) (family_by table n i) refl, sym e ∙ t)))

  pub marked_empty : length p ≡ 0 → true ≡ marked_by_any (words_in text table n) (family_by table n) i p
  unfolding is_prefix
  marked_empty e = marked_own true (subst (λ (w : Word). true ≡ is_prefix w (x_of (words_in text table n) i)) (sym (no_letters p e)) refl) refl

  pub unmarked_start : (f : ℕ) → f ≡ family_at table i → Unmarked text table n i p f
  unmarked_start f e = subst (Unmarked text table n i p) (sym e) (along_start table n h.grouped.linked i h.there (mark_test text table n p))

  module _ (j : ℕ) (u : Unmarked text table n i p j) where
    module _ (l : j < n) (x : Bool) (e : x ≡ is_prefix p (x_of (words_in text table n) j)) where
      pub marked_some : x ≡ true → true ≡ marked_by_any (words_in text table n) (family_by table n) i p
      marked_some t = marked_search true (along_some table n h.grouped.linked i h.there (mark_test text table n p) j l u (sym e ∙ t))

      pub unmarked_next : x ≡ false → (k : ℕ) → k ≡ next_of table j → Unmarked text table n i p k
      unmarked_next t k f = subst (Unmarked text table n i p) (sym f) (along_next table n h.grouped.linked i h.there (mark_test text table n p) j l u (sym e ∙ t))

    pub marked_none : n ≤ j → false ≡ marked_by_any (words_in text table n) (family_by table n) i p
    marked_none l = marked_search false (along_none table n h.grouped.linked i h.there (mark_test text table n p) j l u)

    -- the next member is further on
    pub member_later : j < n → (k : ℕ) → k ≡ next_of table j → n - k < n - j
    member_later l k e = let a = h.grouped.linked.later j l in omega (arith, a, e, l)

pub ruleset marks_any = (grouped, marked_own, marked_empty, unmarked_start, marked_some, unmarked_next, marked_none, member_later, rules)

-- what is lent of a word from a place on is all that is left of it
pub rest_lent : (source : Word) (from : ℕ) → take (length source - from) (drop from source) ≡ drop from source
rest_lent source from = take_all (length source - from) (drop from source) (omega (arith, length-drop from source))

-- a rest that is active
module _ (text table : List ℕ) (n : ℕ) (given : Word) (j k : ℕ) (a : RestAsked text table n given j k) where
  pub rest_word : GroupedWord text table n j
  rest_word = a.word

  pub rest_within : k ≤ length given
  rest_within = a.within

  module _ (s : Site) (e : s ≡ site_of table j) where
    rest_lies : Lies text (words_in text table n) j s
    rest_lies = grouped_lies text table n j a.word s e

    pub rest_up : s.tail ≤ s.stop
    rest_up = rest_lies.third

    pub rest_inside : s.stop ≤ length text
    rest_inside = rest_lies.inside

    pub rest_fits : Fits w64 (s.tail * 2)
    unfolding site_of
    rest_fits =
        let l = a.word.grouped.checked.laid in
        let b = start_bound text table n l j (let t = a.word.there in omega (arith, t)) in
        let f = l.few in
        let r = rest_lies in
        let d = ap (λ (t : Site). t.start) e in
        let t = a.word.there in
        omega (arith, b, f, t, d, r.third, r.short)

    pub rest_active : (r : Bool) → r ≡ has_relation_prefix_between (words_in text table n) (part text s.tail s.stop ++ take (length given - k) (drop k given)) 0 (s.stop - s.tail)
        → r ≡ active (words_in text table n) (z_of (words_in text table n) j) (drop k given)
    unfolding active
    rest_active r f =
        let l = part_length text s.tail s.stop rest_inside in
        rw (rest_lies.z, l) (rw (rest_lent given k) at f)

pub ruleset actives = (rest_word, grouped, rest_within, rest_up, rest_inside, rest_fits, rest_active, rules)
