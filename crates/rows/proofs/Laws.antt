-- A law for each way that the code can go which looks for the first row that fits.
use Prim.Native.Nat.{ℕ, ◌≤◌, ◌<◌}
use mathlib.Core.Bool.{Bool, true, false, ◌&&◌, ◌||◌, not, true≢false, and-eq-true_iff}
use mathlib.Core.List.{List}
use mathlib.Core.Logic.{by_cases}
use mathlib.Core.Path.{◌≡◌, refl, sym, ap, ◌∙◌, subst}
use native.Mathlib.Decide.{dec_lt, ℕ_discrete}
use native.Mathlib.Omega.{arith}
use borrow.Author.Rules.{rules}
use lib.Dec.{eqb, ltb}
use lib.ListN.{length}
use borrow.Author.Tests.{eqb-true, eq-eqb, ne_eqb, le-leb, lt-leb, lt-ltb, le-ltb}
use Rattle.words.specs.Search.{least}
use Rattle.words.specs.Words.{Word, is_empty, is_prefix, part}
use Rattle.words.proofs.Searching.{least_passes, least_first}
use Rattle.overlap.specs.Cuts.{xy_of}
use Rattle.overlap.proofs.Facts.{rigid_of_c4}
use Rattle.congruence.specs.Rows.{clean_relation_prefix, marked_by_any, member_of, is_other, fitting, first_row}
use Rattle.congruence.proofs.Heads.{Facts}
use Rattle.congruence.proofs.RowTests.{clean_relation_prefix_passes}
use Rattle.congruence.proofs.FirstRow.{CleanPrefix, Member, member_of_begins}
use Rattle.layout.specs.Layout.{words_in, Checked}
use Rattle.layout.specs.Places.{family_cell}
use Rattle.layout.specs.Families.{family_at, family_by, Grouped, GroupedWord}
use Rattle.layout.proofs.Placed.{words_length}
use Rattle.layout.proofs.Cells.{family_at_lem}
use Rattle.index.specs.Index.{relation_prefix_at}
use Rattle.sites.specs.declared.Site.{Site}
use Rattle.sites.specs.Sites.{site_of, SiteInText, SitesInText}
use Rattle.sites.proofs.Sites.{site_in_text}
use Rattle.sites.proofs.Laws.{spans}
use Rattle.kin.specs.Asked.{LinkedWord, two_at_most}
use Rattle.kin.proofs.Tails.{linked_family_room, one_other}
use Rattle.kin.proofs.Laws.{grouped, grouped_checked, grouped_linked, grouped_lies}
use Rattle.rows.specs.declared.Found.{Found}
use Rattle.rows.specs.Shapes.{row_by, shaped_row, tail_follows, kin_or_none, OneLeft, CleanWord, FoundRow}
use Rattle.rows.proofs.Shapes.{shaped}
use Rattle.rows.proofs.Members.{member_tried, member_untried, begun_none, begun_other, begun_here}

-- the row by three tests
module _ (w a c : Bool) where
  module _ (ew : w ≡ true) where
    pub row_all : a ≡ true → 4 ≡ row_by w a c
    unfolding row_by
    row_all e = rw (ew, e)

    pub row_whole_same : a ≡ false → c ≡ true → 5 ≡ row_by w a c
    unfolding row_by
    row_whole_same e f = rw (ew, e, f)

    pub row_whole : a ≡ false → c ≡ false → 7 ≡ row_by w a c
    unfolding row_by
    row_whole e f = rw (ew, e, f)

  module _ (ew : w ≡ false) where
    pub row_part_same : c ≡ true → 5 ≡ row_by w a c
    unfolding row_by
    row_part_same f = rw (ew, f)

    pub row_member : c ≡ false → a ≡ true → 6 ≡ row_by w a c
    unfolding row_by
    row_member f e = rw (ew, f, e)

    pub row_parts : c ≡ false → a ≡ false → 8 ≡ row_by w a c
    unfolding row_by
    row_parts f e = rw (ew, f, e)

pub ruleset rows = (row_all, row_whole_same, row_whole, row_part_same, row_member, row_parts, rules)

-- the row by the words
pub row_shaped : (text : List ℕ) (s t : Site) (same : Bool) (u v : Word) (w a : Bool) (r : ℕ) → w ≡ tail_follows text s u → a ≡ tail_follows text t v
    → r ≡ row_by w a same → r ≡ shaped_row text s t same u v
unfolding shaped_row
row_shaped text s t same u v w a r e f g = rw (← e, ← f) g

module _ (text : List ℕ) (s t : Site) (h : SitesInText text s t) where
  pub spans_own : SiteInText text s
  spans_own = h.own

  pub spans_member : SiteInText text t
  spans_member = h.other

pub ruleset shaped_rows = (row_shaped, spans_own, spans_member, spans, rules)

-- a word and its family
module _ (table : List ℕ) (n i : ℕ) (h : LinkedWord table n i) (j : ℕ) where
  pub kin_none : n ≤ j → n ≡ kin_or_none table n i j
  unfolding kin_or_none
  kin_none l = rw (le-leb n j l)

  module _ (l : j < n) where
    pub kin_room : family_cell j < length table
    kin_room = let a = h.few in let b = h.room in omega arith

    module _ (a b : ℕ) (ea : a ≡ family_at table i) (eb : b ≡ family_at table j) where
      pub kin_here : a ≡ b → j ≡ kin_or_none table n i j
      unfolding kin_or_none
      kin_here q = let t : eqb (family_at table i) (family_at table j) ≡ true = rw (← ea, ← eb) (eq-eqb a b q) in rw (lt-leb n j l, t)

      pub kin_other : (a ≡ b → ⊥) → n ≡ kin_or_none table n i j
      unfolding kin_or_none
      kin_other q = let t : eqb (family_at table i) (family_at table j) ≡ false = rw (← ea, ← eb) (ne_eqb a b q) in rw (lt-leb n j l, t)

pub ruleset kins = (linked_family_room, kin_none, kin_room, kin_here, kin_other, rules)

-- X and Y of one relation word
pub begins_here_lem : (text table : List ℕ) (n j : ℕ) → GroupedWord text table n j → (s : Site) → s ≡ site_of table j → (w : Word) (r : Bool)
    → r ≡ is_prefix (part text s.start s.tail) w → r ≡ is_prefix (xy_of (words_in text table n) j) w
begins_here_lem text table n j h s e w r f = f ∙ ap (λ (x : Word). is_prefix x w) (sym (grouped_lies text table n j h s e).xy)

pub ruleset begins_here = (grouped, begins_here_lem, spans, rules)

-- what the test for another member says
is_another : (family : ℕ → ℕ) (i k : ℕ) → family i ≡ family k → (i ≡ k → ⊥) → is_other family i k ≡ true
unfolding is_other
is_another family i k e q = simp and-eq-true_iff (eq-eqb (family i) (family k) e, ap not (ne_eqb i k q))

other_family : (family : ℕ → ℕ) (i k : ℕ) → is_other family i k ≡ true → family i ≡ family k
unfolding is_other
other_family family i k t = eqb-true (family i) (family k) (simp and-eq-true_iff at t).0

-- the member that a word begins with
module _ (text table : List ℕ) (n i : ℕ) (h : GroupedWord text table n i) where
  rigid : Facts (words_in text table n)
  rigid = rigid_of_c4 (words_in text table n) h.grouped.checked.accepted

  pub member_one : (w : Word) (j : ℕ) → j ≡ relation_prefix_at (words_in text table n) w 0 → (r : ℕ) → r ≡ kin_or_none table n i j
      → r ≡ member_of (words_in text table n) (family_by table n) i w
  unfolding relation_prefix_at kin_or_none
  member_one w j e r f = f ∙ by_cases (dec_lt j n)
      (λ l.
      let c : j < length (words_in text table n) = let b = words_length text table n in omega (arith, b, l) in
      let p = family_at_lem table n i h.there in
      let q = family_at_lem table n j l in
      rw (lt-leb n j l)
      (by_cases (ℕ_discrete (family_at table i) (family_at table j))
      (λ t. rw (eq-eqb (family_at table i) (family_at table j) t) (begun_here (words_in text table n) rigid (family_by table n) i w j e c (p ∙ t ∙ sym q)))
      (λ t.
      rw (ne_eqb (family_at table i) (family_at table j) t)
      (sym (words_length text table n) ∙ begun_other (words_in text table n) rigid (family_by table n) i w j e (λ z. t (sym p ∙ z ∙ q))))))
      (λ l.
      let b = words_length text table n in
      rw (le-leb n j (omega (arith, l))) (sym b ∙ begun_none (words_in text table n) rigid (family_by table n) i w j e (omega (arith, b, l))))

  module _ (w : Word) (x : Bool) (ex : x ≡ is_prefix (xy_of (words_in text table n) i) w) where
    pub member_own : x ≡ true → i ≡ member_of (words_in text table n) (family_by table n) i w
    member_own t =
        let b = words_length text table n in
        member_tried (words_in text table n) rigid (family_by table n) i w i (omega (arith, b, h.there)) refl (sym ex ∙ t)

    pub member_left : x ≡ false → (y : Bool) → y ≡ two_at_most table n i → y ≡ true → OneLeft text table n w i
    member_left t y ey ty = record { word = h; two = sym ey ∙ ty; unlike = sym ex ∙ t }

pub ruleset members = (grouped_checked, grouped_linked, member_own, member_left, member_one, rules)

-- the other member of a family of two
module _ (text table : List ℕ) (n : ℕ) (w : Word) (i : ℕ) (h : OneLeft text table n w i) where
  pub left_linked : LinkedWord table n i
  left_linked = grouped_linked text table n i h.word

  module _ (j : ℕ) (ej : j ≡ least n (is_other (family_by table n) i)) where
    is_other_lem : j < n → is_other (family_by table n) i j ≡ true
    is_other_lem a = rw ej (least_passes n (is_other (family_by table n) i) (omega (arith, a, ej)))

    -- a test that fails of i and of the other member fails of every member
    members_fail : (j < n → is_prefix (xy_of (words_in text table n) j) w ≡ false)
        → (k : ℕ) → k < length (words_in text table n) → family_by table n i ≡ family_by table n k → is_prefix (xy_of (words_in text table n) k) w ≡ false
    members_fail f k l e = by_cases (ℕ_discrete i k)
        (λ q. subst (λ (m : ℕ). is_prefix (xy_of (words_in text table n) m) w ≡ false) q h.unlike)
        (λ q.
        let b = words_length text table n in
        let kn : k < n = omega (arith, b, l) in
        let o = is_another (family_by table n) i k e q in
        by_cases (dec_lt j n)
        (λ a. subst (λ (m : ℕ). is_prefix (xy_of (words_in text table n) m) w ≡ false) (one_other table n i left_linked h.two j k a kn (is_other_lem a) o) (f a))
        (λ a. absurd (true≢false (sym o ∙ (least_first n (is_other (family_by table n) i)).none k (omega (arith, a, ej, kn))))))

    none_begun : (j < n → is_prefix (xy_of (words_in text table n) j) w ≡ false) → n ≡ member_of (words_in text table n) (family_by table n) i w
    none_begun f = sym (words_length text table n)
        ∙ member_untried (words_in text table n) (rigid text table n i h.word) (family_by table n) i w (members_fail f)

    pub left_alone : n ≤ j → n ≡ member_of (words_in text table n) (family_by table n) i w
    left_alone l = none_begun (λ a. absurd (omega (arith, a, l)))

    module _ (l : j < n) where
      pub left_word : GroupedWord text table n j
      left_word = record { grouped = h.word.grouped; there = l }

      module _ (z : Bool) (ez : z ≡ is_prefix (xy_of (words_in text table n) j) w) where
        pub left_begins : z ≡ true → j ≡ member_of (words_in text table n) (family_by table n) i w
        left_begins q =
            let b = words_length text table n in
            member_tried (words_in text table n) (rigid text table n i h.word) (family_by table n) i w j (omega (arith, b, l))
            (other_family (family_by table n) i j (is_other_lem l)) (sym ez ∙ q)

        pub left_unlike : z ≡ false → n ≡ member_of (words_in text table n) (family_by table n) i w
        left_unlike q = none_begun (λ _. sym ez ∙ q)

pub ruleset lefts = (left_linked, left_alone, left_word, left_begins, left_unlike, rules)

module _ (u v : Word) (x : Bool) (e : x ≡ is_empty u) where
  pub either_u : x ≡ true → true ≡ (is_empty u || is_empty v)
  either_u h = rw (← e, h)

  pub either_v : x ≡ false → (y : Bool) → y ≡ is_empty v → y ≡ (is_empty u || is_empty v)
  either_v h y f = rw (← e, h) f

pub ruleset eithers = (either_u, either_v, rules)

-- row 3 or a later one
module _ (text table : List ℕ) (n : ℕ) (u v : Word) (i : ℕ) (h : CleanWord text table n u v i) where
  pub clean_word : GroupedWord text table n i
  clean_word = h.word

  clean_prefix : CleanPrefix (words_in text table n) u i
  clean_prefix =
      let b = words_length text table n in
      let t = h.word.there in
      record { there = omega (arith, b, t); clean = rw h.clean (clean_relation_prefix_passes (words_in text table n) u (let e = h.clean in omega (arith, b, t, e))) }

  module _ (s : Site) (e : s ≡ site_of table i) (p : Word) (x : Bool) (ex : x ≡ marked_by_any (words_in text table n) (family_by table n) i p) where
    -- row 3, where the mark is in no X or v begins with no member
    third : (x && ltb (member_of (words_in text table n) (family_by table n) i v) n) ≡ false → FoundRow text table n u v p (record { row = 3; word = i; own = s; member = s })
    unfolding first_row fitting
    third q =
        record {
          number = rw (← h.clean, h.some, words_length text table n, lt-leb n i h.word.there, ← ex, q);
          word = λ _. h.clean;
          own = λ _. rw (← h.clean) e;
          member = λ l. absurd (omega arith);
        }

    pub found_unmarked : x ≡ false → FoundRow text table n u v p (record { row = 3; word = i; own = s; member = s })
    found_unmarked q = third (rw q)

    module _ (t : x ≡ true) (j : ℕ) (ej : j ≡ member_of (words_in text table n) (family_by table n) i v) where
      pub found_no_member : n ≤ j → FoundRow text table n u v p (record { row = 3; word = i; own = s; member = s })
      found_no_member l = third (rw (t, ← ej) (le-ltb j n l))

      module _ (l : j < n) where
        pub other_word : GroupedWord text table n j
        other_word = record { grouped = h.word.grouped; there = l }

        member : Member (words_in text table n) (family_by table n) v i j
        member = rw ej (member_of_begins (words_in text table n) (family_by table n) i v (let b = words_length text table n in omega (arith, b, l, ej)))

        module _ (m : Site) (em : m ≡ site_of table j) where
          pub both_sites : SitesInText text s m
          both_sites =
              record {
                own = site_in_text text (words_in text table n) i s (grouped_lies text table n i h.word s e);
                other = site_in_text text (words_in text table n) j m (grouped_lies text table n j other_word m em);
              }

          pub found_member : (row : ℕ) → row ≡ shaped_row text s m (eqb i j) u v → FoundRow text table n u v p (record { row = row; word = i; own = s; member = m })
          unfolding first_row fitting
          found_member row er =
              let q = shaped (words_in text table n) (rigid_of_c4 (words_in text table n) h.word.grouped.checked.accepted) (family_by table n) i j u v clean_prefix member text s m
              (grouped_lies text table n i h.word s e) (grouped_lies text table n j other_word m em) in
              record {
                number = er ∙ q ∙ rw (← h.clean, h.some, words_length text table n, lt-leb n i h.word.there, ← ex, t, ← ej, lt-ltb j n l);
                word = λ _. h.clean;
                own = λ _. rw (← h.clean) e;
                member = λ _. rw (← h.clean, ← ej) em;
              }

pub ruleset site_finds = (clean_word, grouped, found_unmarked, found_no_member, other_word, both_sites, found_member, rules)

-- the first row that fits
module _ (text table : List ℕ) (n : ℕ) (u v p : Word) (f : Found) (x : Bool) (ex : x ≡ (is_empty u || is_empty v)) where
  pub found_empty : x ≡ true → f.row ≡ 1 → FoundRow text table n u v p f
  unfolding first_row fitting
  found_empty h e = record { number = rw (e, ← ex, h); word = λ l. absurd (omega arith); own = λ l. absurd (omega arith); member = λ l. absurd (omega arith) }

  pub found_none : x ≡ false → (i : ℕ) → i ≡ clean_relation_prefix (words_in text table n) u → n ≤ i → f.row ≡ 2 → FoundRow text table n u v p f
  unfolding first_row fitting
  found_none h i ei l e =
      record {
        number = rw (e, ← ei, ← ex, h, words_length text table n, le-leb n i l);
        word = λ l. absurd (omega arith);
        own = λ l. absurd (omega arith);
        member = λ l. absurd (omega arith);
      }

-- the relation word that is found
pub found_prefix : (text table : List ℕ) (n : ℕ) (u v : Word) (i : ℕ) → Grouped text table n → (x : Bool) → x ≡ (is_empty u || is_empty v) → x ≡ false
    → i ≡ clean_relation_prefix (words_in text table n) u → i < n → CleanWord text table n u v i
found_prefix text table n u v i c x ex h ei l = record { word = record { grouped = c; there = l }; some = sym ex ∙ h; clean = ei }

pub grouped_is_checked : (text table : List ℕ) (n : ℕ) → Grouped text table n → Checked text table n
grouped_is_checked text table n c = c.checked

pub ruleset founds = (found_empty, found_none, found_prefix, grouped_is_checked, rules)
