-- The words of a book that was read: the verdict on them, their index and their families; the lowest side of a word, and the answer.
use Prim.Native.Nat.{ℕ, ◌+◌, ◌*◌, ◌≤◌, ◌<◌}
use mathlib.Core.List.{List}
use mathlib.Core.Path.{◌≡◌, sym, ap, ◌∙◌, subst}
use native.Mathlib.Omega.{arith}
use borrow.Author.Rules.{rules}
use borrow.Author.Tests.{eq-eqb, ne_eqb}
use lib.Dec.{eqb}
use lib.ListN.{length, get_or, take}
use Rattle.std.specs.Prelude.{Result, Ok, Err, ⊤}
use Rattle.words.proofs.Searching.{NoneBelow, none_start, none_more, least_is, least_none}
use Rattle.layout.specs.Places.{words_most, start_cell, side_cell, count_cell}
use Rattle.layout.specs.Layout.{Laid, start_of}
use Rattle.longest.specs.Longest.{Tabled}
use Rattle.layout.specs.Families.{side_word_of, sides_in, count_of}
use Rattle.layout.proofs.Cells.{sides_same}
use Rattle.refusals.specs.declared.Refusal.TheVariants as Refusals
use Rattle.format.specs.declared.BookSize.{BookSize}
use Rattle.pieces.specs.declared.Loose.{Loose}
use Rattle.pieces.specs.Judging.{Judging, JudgedKept}
use Rattle.pieces.proofs.Verdicts.{accepted_laid, accepted_words, accepted_c4}
use Rattle.listing.specs.Listing.{Unlisted, IndexMade}
use Rattle.listing.proofs.Keeping.{words_kept, made_checked}
use Rattle.families.specs.Joining.{Groupable}
use Rattle.families.specs.Grouping.{GroupsMade}
use Rattle.families.proofs.Reading as groups
use Rattle.presentation.specs.Loading.{Unchecked, WordsChecked, WordsKept, Sided, first_side, by_judged}

-- the verdict stands, and an accepted book's words are checked and grouped
module _ (text table : List ℕ) (relations : ℕ) (u : Unchecked text table relations) where
  module _ (n : ℕ) (c : n ≡ count_of table) where
    pub checks_laid : Laid text table n
    checks_laid = rw c u.laid

    few_words : n ≤ words_most
    few_words = checks_laid.few

    module _ (array after kept : List ℕ) (r : Result ⊤ Loose) (d : JudgedKept text table n array after kept r) where
      j : Judging text table n after r
      j = d.judging

      loose_checked : (loose : Loose) → r ≡ Err loose → WordsChecked text table relations after r
      loose_checked loose e =
          let same = j.looses loose e in
          record {
            verdict = rw (← c) j.verdict;
            grouped = λ a. absurd (never a);
            words = λ a. absurd (never a);
            families = λ a. absurd (never a);
            sides = ap (λ (t : List ℕ). sides_in t (2 * relations)) same;
            counted = ap count_of same;
            sided = record { room = ap length same ∙ u.room; few = omega (arith, u.few) };
          }
        where
          never : r ≡ Ok tt → ⊥
          never a = let z : ◌≡◌ {A = ℕ} 0 1 = cc in omega arith

      -- a loose word: the table is as it was
      pub checks_loose : (loose : Loose) → r ≡ Err loose → WordsKept text table relations array after kept r
      checks_loose loose e = record { checked = loose_checked loose e; tabled = λ h a. let z : ◌≡◌ {A = ℕ} 0 1 = cc in absurd (omega arith) }

      module _ (e : r ≡ Ok tt) where
        pub accepted_unlisted : Unlisted text after n
        accepted_unlisted = record { laid = accepted_laid text table n after r j e checks_laid; room = (j.cuts e).kept.long ∙ u.room }

        module _ (listed : List ℕ) (m : IndexMade text after n listed) where
          -- the cells of sides, and how many words there are
          cell_kept : (k : ℕ) → side_cell 0 ≤ k → k ≤ count_cell → get_or listed k 0 ≡ get_or table k 0
          cell_kept k a b = m.kept.same k (omega (arith, b)) ∙ (j.cuts e).kept.beyond k (omega (arith, a, few_words))

          listed_sides : sides_in listed (2 * relations) ≡ sides_in table (2 * relations)
          listed_sides = sides_same table listed (2 * relations) (λ k a b. cell_kept k (omega (arith, a)) (omega (arith, b, u.few)))

          pub accepted_groupable : Groupable listed n relations
          accepted_groupable =
              record {
                countable = record { few = few_words; room = m.kept.long ∙ accepted_unlisted.room };
                few = u.few;
                known = λ s h. omega (arith, cell_kept (side_cell s) (omega arith) (omega (arith, h, u.few)), u.known s h, c);
              }

          -- cuts, index and families are made, each keeping what the others wrote
          accepted_checked : (last : List ℕ) → GroupsMade listed n relations last → WordsChecked text table relations last r
          accepted_checked last g =
              let laid = accepted_unlisted.laid in
              let checked = made_checked text after n listed laid (accepted_c4 text table n after r j e checks_laid) (j.cuts e).cut m in
              record {
                verdict = rw (← c) j.verdict;
                grouped = λ _. rw (← c) (groups.made_grouped text listed n relations last checked g);
                words = λ _. rw (← c)
                    (groups.words_kept listed last g.kept text n checked.laid ∙ words_kept after listed m.kept text n few_words
                    ∙ accepted_words text table n after r j e checks_laid);
                families = λ _. rw (← c, ← listed_sides) g.families;
                sides = groups.sides_kept listed last g.kept (2 * relations) (omega (arith, u.few)) ∙ listed_sides;
                counted = groups.count_kept listed last g.kept ∙ cell_kept count_cell (omega arith) (omega arith);
                sided = record { room = g.kept.long ∙ m.kept.long ∙ accepted_unlisted.room; few = omega (arith, u.few) };
              }

          -- the words stay where they are, and so do their longest pieces
          start_kept : (last : List ℕ) → GroupsMade listed n relations last → start_of table n ≡ start_of last n
          start_kept last g =
              sym (g.kept.before (start_cell n) (omega (arith, few_words)) ∙ m.kept.same (start_cell n) (omega (arith, few_words)) ∙ (j.cuts e).kept.starts n few_words)

          pub checks_accepted : (last : List ℕ) → GroupsMade listed n relations last → WordsKept text table relations array last kept (Ok tt)
          checks_accepted last g =
              let w = accepted_checked last g in
              let k : count_of last ≡ n = w.counted ∙ sym c in
              subst (λ (o : Result ⊤ Loose). WordsKept text table relations array last kept o) e
              (record { checked = w; tabled = λ h _. rw k (subst (λ (p : ℕ). Tabled (take p text) kept) (start_kept last g) (d.tabled h)) })

pub ruleset checks = (checks_laid, checks_loose, accepted_unlisted, accepted_groupable, checks_accepted, rules)

-- the lowest side of a word
pub record Siding (table : List ℕ) (sides word s : ℕ) : Type 0 where
  pub sided : Sided table sides
  pub upto : s ≤ sides
  pub none : NoneBelow (λ k. eqb (side_word_of table k) word) s

pub siding_start : (table : List ℕ) (sides word : ℕ) → Sided table sides → Siding table sides word 0
siding_start table sides word a = record { sided = a; upto = omega arith; none = none_start _ }

module _ (table : List ℕ) (sides word s : ℕ) (a : Siding table sides word s) where
  module _ (h : s < sides) (w : ℕ) (e : w ≡ side_word_of table s) where
    pub siding_more : (w ≡ word → ⊥) → Siding table sides word (s + 1)
    siding_more d = record { sided = a.sided; upto = omega (arith, h); none = none_more _ s a.none (ne_eqb (side_word_of table s) word (λ f. d (e ∙ f))) }

    pub siding_found : w ≡ word → s ≡ first_side table sides word
    unfolding first_side
    siding_found d = sym (least_is sides (λ k. eqb (side_word_of table k) word) s h a.none (eq-eqb (side_word_of table s) word (sym e ∙ d)))

  pub siding_end : sides ≤ s → s ≡ first_side table sides word
  unfolding first_side
  siding_end h =
      let e : s ≡ sides = omega (arith, h, a.upto) in
      e ∙ sym (least_none sides (λ k. eqb (side_word_of table k) word) (subst (λ (k : ℕ). NoneBelow (λ k. eqb (side_word_of table k) word) k) e a.none))

pub ruleset sidings = (siding_start, siding_more, siding_found, siding_end, rules)

-- the answer by the verdict
pub answer_accepted : (table : List ℕ) (size : BookSize) (j : Result ⊤ Loose) → j ≡ Ok tt → Ok size ≡ by_judged table size j
answer_accepted table size j e = rw e

pub answer_loose : (table : List ℕ) (size : BookSize) (j : Result ⊤ Loose) (loose : Loose) (s : ℕ) → j ≡ Err loose
    → s ≡ first_side table (2 * size.relations) loose.word → Err (Refusals.Loose s) ≡ by_judged table size j
answer_loose table size j loose s e f = rw (e, f)

pub ruleset answers = (answer_accepted, answer_loose, rules)
