-- No relation word begins with a letter whose list in the index is empty, and no X and Y stand where such a letter stands.
use Prim.Native.Nat.{ℕ, ◌+◌, ◌≤◌, ◌<◌}
use mathlib.Core.Bool.{Bool, true, false}
use mathlib.Core.List.{List}
use mathlib.Core.Path.{◌≡◌, sym, ap, ◌∙◌, subst}
use native.Mathlib.Omega.{arith}
use borrow.Author.Rules.{rules}
use borrow.Author.Tests.{eqb-true, ltb-false, le-leb, lt-leb}
use lib.Dec.{eqb}
use lib.ListN.{length, get_or, drop}
use lib.Seq.{get_or-take, get_or-drop}
use Rattle.words.specs.Words.{Word}
use Rattle.words.proofs.Tests.{false_of}
use Rattle.words.proofs.Prefixes.{prefix_at, prefix_fits}
use Rattle.words.proofs.Parts.{part_at}
use Rattle.overlap.specs.Pieces.{word}
use Rattle.overlap.specs.Cuts.{xylen, xy_of}
use Rattle.overlap.proofs.Facts.{length_xy, rigid_of_c4}
use Rattle.congruence.specs.Rows.{has_relation_prefix_at}
use Rattle.congruence.proofs.RowTests.{test_of_stands}
use Rattle.congruence.proofs.Drops.{BeginsNone}
use Rattle.layout.specs.Places.{letters_bound, table_room, first_cell}
use Rattle.layout.specs.Layout.{start_of, end_of, first_of, words_in, Checked}
use Rattle.layout.proofs.Placed.{words_length, word_part}
use Rattle.joined.specs.Joined.{has_place}
use Rattle.sites.specs.FirstLetters.{empty_list}

module _ (table : List ℕ) (letter c : ℕ) (w : c ≡ letter) where
  pub list_high : letters_bound ≤ c → true ≡ empty_list table letter
  unfolding empty_list
  list_high h = rw (← w, le-leb letters_bound c h)

  module _ (h : c < letters_bound) where
    pub list_low : (from to : ℕ) → from ≡ first_of table c → to ≡ first_of table (c + 1) → eqb from to ≡ empty_list table letter
    unfolding empty_list
    list_low from to e f = rw (e, f, ← w, lt-leb letters_bound c h)

    pub list_room : length table ≡ table_room → first_cell c < length table
    list_room e = omega arith

    pub list_next : length table ≡ table_room → first_cell (c + 1) < length table
    list_next e = omega arith

pub ruleset empty_lists = (list_high, list_low, list_room, list_next, rules)

module _ (text table : List ℕ) (n : ℕ) (k : Checked text table n) where
  -- the first letter of a relation word stands at its start in the text
  first_letter : (i : ℕ) → i < n → get_or (word (words_in text table n) i) 0 0 ≡ get_or text (start_of table i) 0
  first_letter i h =
      let s = k.laid.some i h in
      ap (λ w. get_or w 0 0) (word_part text table n i h) ∙ part_at text (start_of table i) (end_of table i) 0 (omega arith) ∙ ap (λ m. get_or text m 0) (omega arith)

  pub begins_none : (c : ℕ) → empty_list table c ≡ true → BeginsNone (words_in text table n) c
  unfolding empty_list
  begins_none c e i l q =
      let b = words_length text table n in
      let h : i < n = omega arith in
      let g : get_or text (start_of table i) 0 ≡ c = sym (first_letter i h) ∙ q in
      let s = k.laid.some i h in
      let low = k.laid.letters i (start_of table i) h (omega arith) s in
      let f = k.indexed.found i h in
      let x = f.1 in
      let y = f.2 in
      let z : first_of table c ≡ first_of table (c + 1) = eqb-true (first_of table c) (first_of table (c + 1)) (rw (lt-leb letters_bound c (omega (arith, low, g))) at e) in
      let a : first_of table c ≤ f.0 = subst (λ (m : ℕ). first_of table m ≤ f.0) g x in
      let d : f.0 < first_of table (c + 1) = subst (λ (m : ℕ). f.0 < first_of table (m + 1)) g y in
      omega (arith, a, d, z)

-- so no X and Y stand where such a letter stands, and none behind the end of a word
module _ (text table : List ℕ) (n : ℕ) (k : Checked text table n) (w : Word) (q : ℕ) where
  -- X and Y that stand at a place begin with the letter there, inside the word
  letter_of_prefix : has_relation_prefix_at (words_in text table n) w q ≡ true
      → (i : ℕ) × (i < length (words_in text table n)) × (get_or (word (words_in text table n) i) 0 0 ≡ get_or w q 0) × (q < length w)
  letter_of_prefix e =
      let B = words_in text table n in
      let f = test_of_stands B w q e in
      let s = (rigid_of_c4 B k.accepted).some f.0 f.1 in
      let l = length_xy B f.0 in
      let g = prefix_fits (xy_of B f.0) w q (omega arith) f.2 in (
        f.0,
        f.1,
        sym (get_or-take (xylen B f.0) (word B f.0) 0 0 (omega arith)) ∙ prefix_at (xy_of B f.0) (drop q w) f.2 0 (omega arith) ∙ get_or-drop q w 0 0 ∙ ap (λ m. get_or w m 0) (omega arith),
        omega arith,
      )

  pub none_under_letter : (x : ℕ) → x ≡ get_or w q 0 → (r : Bool) → r ≡ empty_list table x → r ≡ true → false ≡ has_relation_prefix_at (words_in text table n) w q
  none_under_letter x e r f h =
      sym (false_of (has_relation_prefix_at (words_in text table n) w q) (λ d.
      let y = letter_of_prefix d in
      begins_none text table n k x (sym f ∙ h) y.0 y.1 (y.2 ∙ sym e)))

  pub none_past_end : (r : Bool) → r ≡ has_place w q → r ≡ false → false ≡ has_relation_prefix_at (words_in text table n) w q
  unfolding has_place
  none_past_end r e h =
      sym (false_of (has_relation_prefix_at (words_in text table n) w q) (λ d.
      let y = letter_of_prefix d in
      let l = ltb-false q (length w) (sym e ∙ h) in
      omega (arith, y.3, l)))
