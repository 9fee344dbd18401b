-- A law for each way that looking for the clean relation prefix, the carrier and the chosen member can go.
use Prim.Native.Nat.{ℕ, ◌+◌, ◌-◌, ◌≤◌, ◌<◌}
use mathlib.Core.Bool.{Bool, true, false, and-eq-true_iff}
use mathlib.Core.Logic.{by_cases}
use mathlib.Core.List.{List, ◌++◌}
use mathlib.Core.Path.{◌≡◌, refl, sym, ap, ◌∙◌, subst}
use native.Mathlib.Omega.{arith}
use native.Mathlib.Decide.{dec_lt}
use borrow.Author.Rules.{rules}
use borrow.Author.Tests.{lt-ltb, le-ltb, ltb-true, eq-eqb, ne_eqb}
use mir.Syntax.{w64}
use mir.Val.{Fits}
use lib.Dec.{eqb, ltb}
use lib.ListN.{length, get_or, take, drop, length-drop}
use lib.Seq.{drop-drop}
use Rattle.words.specs.Words.{Word, is_prefix, part}
use Rattle.words.proofs.Picks.{and_right}
use Rattle.words.proofs.Parts.{part_length}
use Rattle.words.proofs.Prefixes.{prefix_length}
use Rattle.words.proofs.Searching.{any_of, any_none}
use Rattle.overlap.specs.Cuts.{z_of}
use Rattle.overlap.proofs.Facts.{rigid_of_c4}
use Rattle.congruence.specs.Rows.{clean_relation_prefix, active, marked_by_any}
use Rattle.congruence.proofs.Drops.{no_clean_prefix}
use Rattle.least.specs.Writing.{carrier, clean_before}
use Rattle.layout.specs.Places.{table_room, family_cell, next_cell}
use Rattle.layout.specs.Layout.{Span, words_in, Checked}
use Rattle.layout.specs.Families.{family_at, family_by, next_of}
use Rattle.layout.proofs.Placed.{words_length}
use Rattle.layout.proofs.Links.{Along, along_start, along_next, along_first, along_no_first}
use Rattle.sites.specs.FirstLetters.{empty_list}
use Rattle.sites.proofs.FirstLetters.{begins_none}
use Rattle.kin.specs.Asked.{RestAsked}
use Rattle.kin.proofs.Laws.{grouped_family_room, grouped_next_room, grouped_other, rest_lent}
use Rattle.moves.specs.declared.PlacedWord.{PlacedWord}
use Rattle.moves.specs.declared.Mark.{Mark}
use Rattle.moves.specs.State.{placed_word, placed_mark}
use Rattle.moves.specs.Drops.{HasLetter}
use Rattle.walks.specs.Walks.{PlacesAsked, FirstClean}
use Rattle.members.specs.Members.{applies, active_apart, other_carrier, carries_first, quiet}
use Rattle.members.specs.Asked.{WordAsked, MarkAsked, IdleAsked, QuietAsked}
use Rattle.members.proofs.Members.{carrier_own, carrier_alone, carrier_other}
use Rattle.members.proofs.Laws.{mark_word, mark_up, mark_inside}

-- the clean relation prefix of a held word
module _ (text table : List ℕ) (n : ℕ) (given : Word) (h : PlacedWord) (a : WordAsked text table n given h) where
  pub word_letter : HasLetter text given h
  word_letter = record { inside = a.fits.inside; some = a.some }

  pub word_table : length table ≡ table_room
  word_table = a.checked.indexed.room

  pub word_checked : Checked text table n
  word_checked = a.checked

  pub word_up : h.at ≤ h.to
  word_up = a.fits.up

  pub word_inside : h.to ≤ length text
  word_inside = a.fits.inside

  pub word_within : h.from ≤ length given
  word_within = a.fits.within

  pub word_none : (x : ℕ) → x ≡ get_or (placed_word text given h) 0 0 → (b : Bool) → b ≡ empty_list table x → b ≡ true → n ≡ clean_relation_prefix (words_in text table n) (placed_word text given h)
  word_none x e b f t =
      sym (no_clean_prefix (words_in text table n) (rigid_of_c4 (words_in text table n) a.checked.accepted) (placed_word text given h)
      (rw e at (begins_none text table n a.checked x (sym f ∙ t))) ∙ words_length text table n)

pub word_clean : (text table : List ℕ) (n : ℕ) (given : Word) (h : PlacedWord) (r : ℕ)
    → r ≡ clean_relation_prefix (words_in text table n) (part text h.at h.to ++ take (length given - h.from) (drop h.from given))
    → r ≡ clean_relation_prefix (words_in text table n) (placed_word text given h)
word_clean text table n given h r e = rw (rest_lent given h.from) at e

pub ruleset words_clean = (word_letter, word_table, word_checked, word_up, word_inside, word_within, word_none, word_clean, rules)

-- a word apart from i and j that is active
module _ (text table : List ℕ) (n : ℕ) (given : Word) (i j c k : ℕ) where
  pub apart_own : c ≡ i → false ≡ active_apart (words_in text table n) i j (drop k given) c
  unfolding active_apart
  apart_own e = rw (eq-eqb c i e)

  module _ (d : c ≡ i → ⊥) where
    pub apart_idle : c ≡ j → false ≡ active_apart (words_in text table n) i j (drop k given) c
    unfolding active_apart
    apart_idle e = rw (ne_eqb c i d, eq-eqb c j e)

    pub apart_told : (c ≡ j → ⊥) → (x : Bool) → x ≡ active (words_in text table n) (z_of (words_in text table n) c) (drop k given) → x ≡ active_apart (words_in text table n) i j (drop k given) c
    unfolding active_apart
    apart_told g x e = rw (ne_eqb c i d, ne_eqb c j g) e

pub ruleset aparts = (apart_own, apart_idle, apart_told, rules)

-- what the loop along the members of i's family knows at c: no member before it, other than i and j, is active
abbrev pub Idle : List ℕ → List ℕ → ℕ → Word → ℕ → ℕ → ℕ → ℕ → Type 0
Idle text table n given i j k c = Along table n i (active_apart (words_in text table n) i j (drop k given)) c

module _ (text table : List ℕ) (n : ℕ) (given : Word) (i j k : ℕ) (a : RestAsked text table n given i k) where
  test : ℕ → Bool
  test = active_apart (words_in text table n) i j (drop k given)

  pub rest_family_room : family_cell i < length table
  rest_family_room = grouped_family_room text table n i a.word

  pub rest_other : (c : ℕ) → c < n → RestAsked text table n given c k
  rest_other c l = record { word = grouped_other text table n i a.word c l; within = a.within }

  pub rest_next_room : (c : ℕ) → c < n → next_cell c < length table
  rest_next_room c l = grouped_next_room text table n c (grouped_other text table n i a.word c l)

  pub idle_start : (f : ℕ) → f ≡ family_at table i → Idle text table n given i j k f
  unfolding test
  idle_start f e = subst (Idle text table n given i j k) (sym e) (along_start table n a.word.grouped.linked i a.word.there test)

  module _ (c : ℕ) (u : Idle text table n given i j k c) where
    module _ (l : c < n) (x : Bool) (e : x ≡ active_apart (words_in text table n) i j (drop k given) c) where
      pub idle_found : x ≡ true → c ≡ other_carrier (words_in text table n) (family_by table n) i j (drop k given)
      unfolding other_carrier test
      idle_found t = sym (rw (words_length text table n) (along_first table n a.word.grouped.linked i a.word.there test c l u (sym e ∙ t)))

      pub idle_next : x ≡ false → (m : ℕ) → m ≡ next_of table c → Idle text table n given i j k m
      unfolding test
      idle_next t m f = subst (Idle text table n given i j k) (sym f) (along_next table n a.word.grouped.linked i a.word.there test c l u (sym e ∙ t))

    pub idle_none : n ≤ c → n ≡ other_carrier (words_in text table n) (family_by table n) i j (drop k given)
    unfolding other_carrier test
    idle_none l = sym (rw (words_length text table n) (along_no_first table n a.word.grouped.linked i a.word.there test c l u))

    pub idle_later : c < n → (m : ℕ) → m ≡ next_of table c → n - m < n - c
    idle_later l m e = let b = a.word.grouped.linked.later c l in omega (arith, b, e, l)

pub ruleset other_carriers = (rest_family_room, rest_other, rest_next_room, idle_start, idle_found, idle_next, idle_none, idle_later, rules)

-- whether i carries before c
module _ (text table : List ℕ) (n : ℕ) (given : Word) (i j k : ℕ) (a : IdleAsked text table n given i j k) where
  pub idle_rest : RestAsked text table n given i k
  idle_rest = a.rest

  pub carries_behind : (c : ℕ) → c ≤ i → false ≡ carries_first (words_in text table n) i (drop k given) c
  unfolding carries_first
  carries_behind c l = rw (le-ltb i c l)

  module _ (c : ℕ) (l : i < c) where
    pub carries_idle : j ≡ i → false ≡ carries_first (words_in text table n) i (drop k given) c
    unfolding carries_first
    carries_idle e =
        sym (and_right (ltb i c) (active (words_in text table n) (z_of (words_in text table n) i) (drop k given))
        (subst (λ (m : ℕ). active (words_in text table n) (z_of (words_in text table n) m) (drop k given) ≡ false) e (a.idle _ refl)))

    pub carries_told : (x : Bool) → x ≡ active (words_in text table n) (z_of (words_in text table n) i) (drop k given) → x ≡ carries_first (words_in text table n) i (drop k given) c
    unfolding carries_first
    carries_told x e = rw (lt-ltb i c l) e

pub ruleset carries_firsts = (idle_rest, carries_behind, carries_idle, carries_told, rules)

-- the carrier
module _ (text table : List ℕ) (n : ℕ) (given : Word) (i j k : ℕ) (a : IdleAsked text table n given i j k)
    (c : ℕ) (e : c ≡ other_carrier (words_in text table n) (family_by table n) i j (drop k given)) where
  there : i < length (words_in text table n)
  there = rw (words_length text table n) a.rest.word.there

  pub carried_alone : n ≤ c → i ≡ carrier (words_in text table n) (family_by table n) i (drop k given)
  carried_alone l =
      let b = words_length text table n in
      sym (carrier_alone (words_in text table n) (family_by table n) i j (drop k given) there (a.idle _ refl) (omega (arith, e, l, b)))

  module _ (x : Bool) (f : x ≡ carries_first (words_in text table n) i (drop k given) c) where
    pub carried_own : x ≡ true → i ≡ carrier (words_in text table n) (family_by table n) i (drop k given)
    unfolding carries_first
    carried_own t =
        let r = simp and-eq-true_iff at (sym f ∙ t) in
        let b = ltb-true i c r.0 in
        sym (carrier_own (words_in text table n) (family_by table n) i j (drop k given) there (a.idle _ refl) r.1 (omega (arith, b, e)))

    pub carried_other : c < n → x ≡ false → c ≡ carrier (words_in text table n) (family_by table n) i (drop k given)
    unfolding carries_first
    carried_other l t =
        let b = words_length text table n in
        e ∙ sym (carrier_other (words_in text table n) (family_by table n) i j (drop k given) there (a.idle _ refl) (omega (arith, e, l, b)) (λ z.
        let q : ltb i c ≡ true = lt-ltb i c (omega (arith, e, z)) in
        rw q at (sym f ∙ t)))

pub ruleset carriers = (idle_rest, carried_alone, carried_own, carried_other, rules)

-- a part that stands quiet
module _ (text table : List ℕ) (n : ℕ) (given : Word) (at to k : ℕ) (a : QuietAsked text table n given at to k) where
  pub quiet_span : Span text at to
  quiet_span = a.span

  pub quiet_up : at ≤ to
  quiet_up = a.span.upwards

  pub quiet_fits : Fits w64 (k + (to - at))
  quiet_fits = let b = a.span.inside in let c = a.small in let d = a.within in let e = a.short in omega (arith, b, c, d, e)

  long : length (part text at to) ≡ to - at
  long = part_length text at to a.span.inside

  module _ (x : Bool) (e : x ≡ is_prefix (part text at to) (drop k given)) where
    pub quiet_asked : x ≡ true → PlacesAsked text table n given k (k + (to - at))
    quiet_asked h =
        let b = prefix_length (part text at to) (drop k given) (sym e ∙ h) in
        let d = length-drop k given in
        let l = long in
        let w = a.within in
        record { checked = a.checked; up = omega arith; within = omega (arith, b, d, l, w) }

    pub quiet_not : x ≡ false → false ≡ quiet text (words_in text table n) given at to k
    unfolding quiet
    quiet_not h = rw (← e, h)

    -- a clean relation prefix begins at a place behind k
    clean_at : ℕ → Bool
    clean_at z = ltb (clean_relation_prefix (words_in text table n) (drop z (drop k given))) (length (words_in text table n))

    clean_some : (q : ℕ) → k ≤ q → clean_relation_prefix (words_in text table n) (drop q given) < length (words_in text table n) → clean_at (q - k) ≡ true
    unfolding clean_at
    clean_some q l h =
        let d : drop (q - k) (drop k given) ≡ drop q given = drop-drop (q - k) k given ∙ ap (λ z. drop z given) {x = k + (q - k)} {y = q} (omega (arith, l)) in
        rw d (lt-ltb (clean_relation_prefix (words_in text table n) (drop q given)) (length (words_in text table n)) h)

    clean_not : (z : ℕ) → length (words_in text table n) ≤ clean_relation_prefix (words_in text table n) (drop (k + z) given) → clean_at z ≡ false
    unfolding clean_at
    clean_not z h = rw (drop-drop z k given) (le-ltb (clean_relation_prefix (words_in text table n) (drop (k + z) given)) (length (words_in text table n)) h)

    pub quiet_told : x ≡ true → (q : ℕ) → FirstClean (words_in text table n) given k (k + (to - at)) q → eqb q (k + (to - at)) ≡ quiet text (words_in text table n) given at to k
    unfolding quiet clean_before clean_at
    quiet_told h q c =
        let l = long in
        by_cases (dec_lt q (k + (to - at)))
        (λ b.
        let o = c.low in
        let m = any_of (length (part text at to)) clean_at (q - k) (omega (arith, l, b, o)) (clean_some q o (c.some b)) in
        rw (← e, h, m, ne_eqb q (k + (to - at)) (λ z. omega (arith, z, b))))
        (λ b.
        let o = c.high in
        let m = any_none (length (part text at to)) clean_at (λ z d. clean_not z (c.none (k + z) (omega arith) (omega (arith, d, l, b)))) in
        rw (← e, h, m, eq-eqb q (k + (to - at)) (omega (arith, b, o))))

pub ruleset quiets = (quiet_span, quiet_up, quiet_fits, quiet_asked, quiet_not, quiet_told, rules)

-- whether a hint applies
module _ (text table : List ℕ) (n : ℕ) (given : Word) (i : ℕ) (q : Mark) (from : ℕ) (a : MarkAsked text table n i q) where
  pub applies_span : Span text q.at q.to
  applies_span = record { upwards = a.mark.up; inside = a.mark.inside }

  module _ (x : Bool) (e : x ≡ is_prefix (part text q.at q.to) (drop from given)) where
    pub applies_not : x ≡ true → false ≡ applies (words_in text table n) (family_by table n) given i (placed_mark text q) from
    unfolding applies
    applies_not h = rw (← e, h)

    pub applies_marked : x ≡ false → (y : Bool) → y ≡ marked_by_any (words_in text table n) (family_by table n) i (part text q.at q.to)
        → y ≡ applies (words_in text table n) (family_by table n) given i (placed_mark text q) from
    unfolding applies
    applies_marked h y f = rw (← e, h) f

pub ruleset applications = (mark_word, mark_up, mark_inside, applies_span, applies_not, applies_marked, rules)
