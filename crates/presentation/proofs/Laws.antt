-- A law for each way that loading a book can go.
use Prim.Native.Nat.{ℕ, ◌*◌, ◌≤◌, ◌<◌}
use mathlib.Core.Bool.{Bool, true, true≢false}
use mathlib.Core.List.{List}
use mathlib.Core.Logic.{by_cases}
use mathlib.Core.Path.{◌≡◌, refl, sym, ap, ◌∙◌, subst}
use native.Mathlib.Omega.{arith}
use native.Mathlib.Decide.{dec_lt}
use borrow.Author.Rules.{rules}
use borrow.Author.Tests.{eqb-true, eq-eqb, lt-ltb, le-ltb}
use lib.Dec.{eqb}
use lib.ListN.{length, get_or}
use Rattle.std.specs.Prelude.{Result, Ok, Err, ⊤}
use Rattle.words.specs.Search.{least}
use Rattle.words.specs.Words.{Word}
use Rattle.words.specs.Relations.{relation_words}
use Rattle.words.specs.Families.{distinct_words, side_words, word_of_side, families_after, words_of, families_of}
use Rattle.words.proofs.Relations.{length_words}
use Rattle.words.proofs.Searching.{least_first, least_passes, least_bound}
use Rattle.words.proofs.Distinct.{distinct_right}
use Rattle.overlap.specs.Verdict.{Verdict, judge, first_loose_side}
use Rattle.overlap.proofs.Verdicts.{first_loose_side_of_word, first_loose_side_of_none}
use Rattle.limits.specs.Limits.{relations_most}
use Rattle.layout.specs.Families.{side_word_of, sides_in, count_of}
use Rattle.layout.proofs.Placed.{words_length}
use Rattle.layout.proofs.Cells.{side_at}
use Rattle.refusals.specs.declared.Refusal.{Refusal}
use Rattle.refusals.specs.declared.Refusal.TheVariants as Refusals
use Rattle.format.specs.declared.BookSize.{BookSize}
use Rattle.format.specs.Book.{Presentation, BookReading, read, refused, read_book, reading_of}
use Rattle.reader.specs.Reading.{Stored, BookRead}
use Rattle.pieces.specs.declared.Loose.{Loose}
use Rattle.pieces.specs.Judging.{judged_of}
use Rattle.pieces.proofs.Verdicts.{none_loose, lowest_loose}
use Rattle.presentation.specs.Loading.{Unchecked, WordsChecked, WordsKept, first_side, by_judged, Holding, Memory, BookLoaded, PiecesKept}
use Rattle.loading.specs.Loading.{by_verdict, load_book}

-- where some number passes, the least one does
least_below : (n : ℕ) (p : ℕ → Bool) (k : ℕ) → k < n → p k ≡ true → least n p < n
least_below n p k h e = by_cases (dec_lt (least n p) n) (λ a. a) (λ a.
    absurd (true≢false (sym e ∙ (least_first n p).none k (omega (arith, least_bound n p, a, h)))))

-- the verdict on the sides, by that on the words
module _ (sides : List Word) (table : List ℕ) (m : ℕ) (long : length sides ≡ m) (same : sides_in table m ≡ side_words sides) where
  side_is : (s : ℕ) → s < m → side_word_of table s ≡ word_of_side sides s
  side_is s h = sym (side_at table m s h) ∙ ap (λ (S : List ℕ). get_or S s 0) same

  -- no word is loose, and so no side
  accepted_sides : judged_of (distinct_words sides) ≡ Ok tt → judge sides ≡ Verdict.accepted
  unfolding judge
  accepted_sides e =
      let f = first_loose_side_of_none sides (omega (arith, none_loose (distinct_words sides) e)) in
      rw (le-ltb (first_loose_side sides) (length sides) (omega (arith, f)))

  -- the lowest side of the lowest loose word
  loose_side : (loose : Loose) → judged_of (distinct_words sides) ≡ Err loose → judge sides ≡ Verdict.loose (first_side table m loose.word)
  unfolding judge first_side
  loose_side loose e =
      let i = loose.word in
      let (h, f) = lowest_loose (distinct_words sides) loose e in
      let (s, a, b) = (distinct_right sides).only i h in
      let none = least_first m (λ k. eqb (side_word_of table k) i) in
      let there = eq-eqb (side_word_of table s) i (side_is s (omega (arith, a, long)) ∙ b) in
      let low : first_side table m i < m = least_below m (λ k. eqb (side_word_of table k) i) s (omega (arith, a, long)) there in
      let word = eqb-true (side_word_of table (first_side table m i)) i (least_passes m (λ k. eqb (side_word_of table k) i) low) in
      let g = first_loose_side_of_word sides (first_side table m i) (omega (arith, low, long)) (sym (side_is (first_side table m i) low) ∙ word ∙ sym f)
      (λ k l d. true≢false (sym (eq-eqb (side_word_of table k) i (side_is k (omega (arith, l, low)) ∙ d ∙ f)) ∙ none.none k l)) in
      rw (lt-ltb (first_loose_side sides) (length sides) (omega (arith, g, low, long))) (ap Verdict.loose g)

-- a book that is read has a presentation
read_presentation : (x : BookReading) (size : BookSize) → Ok size ≡ reading_of x
    → (p : Presentation) × (x ≡ read p) × (size.letters ≡ p.letters) × (size.relations ≡ length p.relations)
read_presentation (BookReading.read p) size e =
    let q : ◌≡◌ {A = BookSize} size (record { letters = p.letters; relations = length p.relations }) = cc in
    (p, refl, ap (λ (s : BookSize). s.letters) q, ap (λ (s : BookSize). s.relations) q)
read_presentation (BookReading.refused r) size e = let z : ◌≡◌ {A = ℕ} 0 1 = cc in absurd (omega arith)

-- a book whose answer is a refusal is refused by it
refused_reading : (x : BookReading) (r : Refusal) → Err r ≡ reading_of x → x ≡ refused r
refused_reading (BookReading.read p) r e = let z : ◌≡◌ {A = ℕ} 0 1 = cc in absurd (omega arith)
refused_reading (BookReading.refused s) r e = let f : r ≡ s = cc in rw f

-- an answer that is none of an accepted book
not_read : (book : List ℕ) (reading : Result BookSize Refusal) (r : Refusal) (text table : List ℕ) → reading ≡ Err r → (size : BookSize) → reading ≡ Ok size
    → Holding book size.letters size.relations text table
not_read book reading r text table e size f = let z : ◌≡◌ {A = ℕ} 0 1 = cc in absurd (omega arith)

module _ (book text table : List ℕ) (memory : Memory text table) (reading : Result BookSize Refusal) (text' table' : List ℕ) (d : BookRead book text table reading text' table') where
  -- 1 to 6
  pub load_unread : (array : List ℕ) (r : Refusal) → reading ≡ Err r → PiecesKept book array (Err r) text' table' array
  unfolding load_book
  load_unread array r e =
      let q = refused_reading (read_book book) r (sym e ∙ d.answer) in
      record {
        loaded = record {
          answer = rw q;
          held = not_read book (Err r) r text' table' refl;
          memory = record { text_roomy = d.text_long ∙ memory.text_roomy; table_roomy = d.table_long ∙ memory.table_roomy };
        };
        tabled = λ h size f. let z : ◌≡◌ {A = ℕ} 0 1 = cc in absurd (omega arith);
      }

  module _ (size : BookSize) (e : reading ≡ Ok size) where
    presented : (p : Presentation) × (read_book book ≡ read p) × (size.letters ≡ p.letters) × (size.relations ≡ length p.relations)
    presented = read_presentation (read_book book) size (sym e ∙ d.answer)

    stored : Stored presented.0 text' table'
    stored = d.stored presented.0 presented.1

    few : size.relations ≤ relations_most
    few = omega (arith, stored.within.few_relations, presented.3)

    abbrev sides : List Word
    sides = relation_words presented.0.relations

    sides_long : length sides ≡ 2 * size.relations
    sides_long = length_words presented.0.relations ∙ ap (λ n. 2 * n) (sym presented.3)

    sides_of : sides_in table' (2 * size.relations) ≡ side_words sides
    sides_of = ap (λ n. sides_in table' (2 * n)) presented.3 ∙ stored.sides

    -- each side has the number of a word that is laid
    pub load_unchecked : Unchecked text' table' size.relations
    load_unchecked =
        record {
          laid = stored.laid;
          room = d.table_long ∙ memory.table_roomy;
          few = few;
          known = λ s h.
              let a = ((distinct_right sides).all s (omega (arith, sides_long, h))).0 in
              let e = sym (side_at table' (2 * size.relations) s h) ∙ ap (λ (S : List ℕ). get_or S s 0) sides_of in
              let l = sym (words_length text' table' (count_of table')) ∙ ap length stored.words in
              omega (arith, a, e, l);
        }

    -- the verdict on the words of the book
    module _ (array last kept : List ℕ) (j : Result ⊤ Loose) (w : WordsKept text' table' size.relations array last kept j) where
      s : WordsChecked text' table' size.relations last j
      s = w.checked

      last_sides : sides_in last (2 * size.relations) ≡ side_words sides
      last_sides = s.sides ∙ sides_of

      verdict : judged_of (words_of presented.0.relations) ≡ j
      verdict = sym (s.verdict ∙ ap judged_of stored.words)

      checked_memory : Memory text' last
      checked_memory = record { text_roomy = d.text_long ∙ memory.text_roomy; table_roomy = s.sided.room }

      -- loading gives what the verdict says
      by_verdict_lem : (v : Verdict) → judge sides ≡ v → load_book book ≡ by_verdict presented.0 v
      unfolding load_book
      by_verdict_lem v e = rw (presented.1, e)

      -- the families are those of the presentation
      families_of_lem : families_after (sides_in table' (2 * size.relations)) (count_of table') size.relations ≡ families_of presented.0.relations
      unfolding families_of
      families_of_lem =
          let l = sym (words_length text' table' (count_of table')) ∙ ap length stored.words in
          ap (λ (S : List ℕ). families_after S (count_of table') size.relations) sides_of
          ∙ ap (λ n. families_after (side_words sides) n size.relations) l ∙ ap (families_after (side_words sides) (length (words_of presented.0.relations))) presented.3

      load_accepted : j ≡ Ok tt → BookLoaded book (Ok size) text' last
      load_accepted a =
          let q : load_book book ≡ read presented.0 = by_verdict_lem Verdict.accepted (accepted_sides sides last (2 * size.relations) sides_long last_sides (verdict ∙ a)) in
          record {
            answer = rw (q, ← presented.2, ← presented.3);
            held = λ other f.
                let same : size ≡ other = cc in
                subst (λ (x : BookSize). Holding book x.letters x.relations text' last) same
                (record {
                  presentation = presented.0;
                  is = q;
                  lettered = presented.2;
                  many = presented.3;
                  grouped = rw s.counted (s.grouped a);
                  words = rw s.counted (s.words a ∙ stored.words);
                  sides = last_sides;
                  families = rw s.counted (s.families a ∙ families_of_lem);
                  within = stored.within;
                });
            memory = checked_memory;
          }

      refused_loaded : (r : Refusal) → load_book book ≡ refused r → BookLoaded book (Err r) text' last
      refused_loaded r q = record { answer = rw q; held = not_read book (Err r) r text' last refl; memory = checked_memory }

      by_judged_lem : (k : Result ⊤ Loose) → j ≡ k → BookLoaded book (by_judged last size k) text' last
      by_judged_lem (Ok u) a = load_accepted a
      by_judged_lem (Err loose) a =
          refused_loaded (Refusals.Loose (first_side last (2 * size.relations) loose.word))
          (by_verdict_lem (Verdict.loose (first_side last (2 * size.relations) loose.word)) (loose_side sides last (2 * size.relations) sides_long last_sides loose (verdict ∙ a)))

      -- only accepted words give a book that is read
      accepted_of_read : (k : Result ⊤ Loose) (other : BookSize) → by_judged last size k ≡ Ok other → k ≡ Ok tt
      accepted_of_read (Ok u) other f = refl
      accepted_of_read (Err loose) other f = let z : ◌≡◌ {A = ℕ} 0 1 = cc in absurd (omega arith)

      pub load_judged : (r : Result BookSize Refusal) → r ≡ by_judged last size j → PiecesKept book array r text' last kept
      load_judged r a = record { loaded = rw a (by_judged_lem j refl); tabled = λ h other f. w.tabled h (accepted_of_read j other (sym a ∙ f)) }

pub ruleset loads = (load_unread, load_unchecked, load_judged, rules)

pub load_refused : (book : List ℕ) (reading : Result BookSize Refusal) (text table : List ℕ) → BookLoaded book reading text table → (r : Refusal) → reading ≡ Err r → load_book book ≡ refused r
load_refused book reading text table d r e = refused_reading (load_book book) r (sym e ∙ d.answer)
