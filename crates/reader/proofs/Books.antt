-- The reader's loop: what it knows at its head, and a law for each way on.
use Prim.Native.Nat.{ℕ, ◌+◌, ◌*◌, ◌-◌, ◌≤◌, ◌<◌}
use mathlib.Core.List.{List, [], ◌∷◌, ◌++◌, append_assoc}
use mathlib.Core.Path.{◌≡◌, refl, sym, ap, ◌∙◌, subst}
use native.Mathlib.Omega.{arith}
use borrow.Author.Rules.{rules}
use lib.ListN.{length, get_or, set, length-append, length-set}
use lib.Seq.{get_or-set_same, get_or-set_other}
use Rattle.std.specs.Prelude.{Result, Ok, Err}
use Rattle.words.specs.Relations.{Relation, relation_words}
use Rattle.words.specs.Families.{distinct_words, including_all, places_in, side_words, words_of}
use Rattle.words.proofs.Distinct.{distinct_last, side_words_last}
use Rattle.layout.specs.Places.{start_cell, end_cell, count_cell}
use Rattle.layout.specs.Layout.{start_of, end_of, words_in, Laid}
use Rattle.layout.specs.Families.{sides_in, count_of}
use Rattle.layout.proofs.Placed.{words_of_places, laid_of_places}
use Rattle.layout.proofs.Cells.{sides_same}
use Rattle.refusals.specs.declared.Refusal.{Refusal}
use Rattle.format.specs.declared.HeadFields.{HeadFields}
use Rattle.format.specs.declared.RelationFields.{RelationFields}
use Rattle.format.specs.declared.BookSize.{BookSize}
use Rattle.format.specs.Book.{Presentation, adding, read, refused, head_at, relation_at, relation_in, relations_from, read_book}
use Rattle.format.specs.Bytes.{Within}
use Rattle.format.proofs.Readings.{RelationRead, relation_read, relation_within, within_more, head_read, within_head}
use Rattle.laying.specs.Appending.{Arrays}
use Rattle.laying.specs.Relations.{including_both, both_places, RelationRoom, RelationAppended}
use Rattle.laying.proofs.Appending.{nothing_laid}
use Rattle.scanning.proofs.Records.{from_end, from_refused, from_more}
use Rattle.reader.specs.Reading.{Stored, BookRead}

-- the book up to `at` is read: the presentation so far is laid, and the rest gives the answer
pub record Going (book text₀ : List ℕ) (letters at count n : ℕ) (text table : List ℕ) : Type 0 where
  pub presentation : Presentation
  pub lettered : letters ≡ presentation.letters
  pub counted : count ≡ length presentation.relations
  pub inside : at ≤ length book
  pub fuel : ℕ
  pub enough : length book ≤ at + fuel
  pub same : read_book book ≡ relations_from fuel presentation book at
  pub within : Within presentation
  pub laid : Laid text table n
  pub before : n ≤ 2 * count
  pub words : words_in text table n ≡ words_of presentation.relations
  pub sides : sides_in table (2 * count) ≡ side_words (relation_words presentation.relations)
  pub text_long : length text ≡ length text₀
  pub arrays : Arrays text table

-- a book that is refused: its arrays hold nothing
refused_book : (book text table : List ℕ) (x : Refusal) (r : Result BookSize Refusal) (text' table' : List ℕ) → read_book book ≡ refused x → r ≡ Err x
    → length text' ≡ length text → length table' ≡ length table → BookRead book text table r text' table'
refused_book book text table x r text' table' b f h k =
    record { answer = rw (b, f); stored = λ p q. absurd (let z : ◌≡◌ {A = ℕ} 0 1 = cc in omega arith); text_long = h; table_long = k }

module _ (book text table : List ℕ) (head : Result HeadFields Refusal) (e : head ≡ head_at 64 0 book 0) where
  pub head_refused : (x : Refusal) → head ≡ Err x → BookRead book text table (Err x) text table
  unfolding read_book
  head_refused x f = refused_book book text table x (Err x) text table (rw (← e, f)) refl refl refl

  pub going_start : (fields : HeadFields) → head ≡ Ok fields → Arrays text table
      → Going book text fields.letters fields.end 0 0 text (set table 0 0)
  unfolding read_book words_in relation_words distinct_words including_all sides_in side_words places_in
  going_start fields f a =
      let h = head_read 64 0 book 0 fields.letters fields.end (sym e ∙ f) in
      record {
        presentation = record { letters = fields.letters; relations = [] };
        lettered = refl;
        counted = refl;
        inside = h.fits;
        fuel = length book;
        enough = omega arith;
        same = rw (← e, f);
        within = within_head 64 book 0 fields.letters fields.end (omega arith) h;
        laid = nothing_laid text table a.table_long;
        before = omega arith;
        words = refl;
        sides = refl;
        text_long = refl;
        arrays = record { text_long = a.text_long; table_long = length-set table 0 0 ∙ a.table_long };
      }

-- one relation more has two sides more
sides_more : (done : List Relation) (r : Relation) → relation_words (done ++ (r ∷ [])) ≡ relation_words done ++ (r.left ∷ []) ++ (r.right ∷ [])
unfolding relation_words
sides_more [] r = refl
sides_more (d ∷ done) r = ap (λ l. d.left ∷ d.right ∷ l) (sides_more done r)

-- their words are included one after the other
distinct_more : (done : List Relation) (r : Relation) → words_of (done ++ (r ∷ [])) ≡ including_both (words_of done) r
distinct_more done r =
    rw (sides_more done r, distinct_last (relation_words done ++ (r.left ∷ [])) r.right, distinct_last (relation_words done) r.left)

-- and each has the place of its word in the words so far
numbers_more : (done : List Relation) (r : Relation) → side_words (relation_words (done ++ (r ∷ []))) ≡ side_words (relation_words done) ++ both_places (words_of done) r
numbers_more done r =
    let left = side_words_last (relation_words done) r.left in
    let right = side_words_last (relation_words done ++ (r.left ∷ [])) r.right in
    rw (sides_more done r, right, left, distinct_last (relation_words done) r.left)
    (append_assoc (side_words (relation_words done)) _ _)

module _ (book text₀ : List ℕ) (letters at count n : ℕ) (text table : List ℕ) (g : Going book text₀ letters at count n text table) where
  going_count : count ≤ 32
  going_count = omega (arith, g.counted, g.within.few_relations)

  going_cell : count_cell < length table
  going_cell = omega (arith, g.arrays.table_long)

  pub going_long : (v : ℕ) (table₀ : List ℕ) → Arrays text₀ table₀ → length (set table count_cell v) ≡ length table₀
  going_long v table₀ a = length-set table count_cell v ∙ g.arrays.table_long ∙ sym a.table_long

  -- the number of words in its cell
  module _ (v : ℕ) (e : v ≡ n) where
    abbrev table' : List ℕ
    table' = set table count_cell v

    counted_words : count_of table' ≡ n
    counted_words = get_or-set_same table count_cell v 0 going_cell ∙ e

    cell_kept : (k : ℕ) → k < count_cell → get_or table' k 0 ≡ get_or table k 0
    cell_kept k h = get_or-set_other table count_cell k v 0 (λ d. omega (arith, h, d))

    start_kept : (k : ℕ) → k ≤ n → start_of table' k ≡ start_of table k
    start_kept k h = cell_kept (start_cell k) (omega (arith, h, g.laid.few))

    end_kept : (k : ℕ) → k < n → end_of table' k ≡ end_of table k
    end_kept k h = cell_kept (end_cell k) (omega (arith, h, g.laid.few))

    going_stored : Stored g.presentation text table'
    going_stored =
        record {
          laid = rw counted_words (laid_of_places text table table' n start_kept end_kept (length-set table count_cell v) g.laid);
          words = rw counted_words (words_of_places text table table' n start_kept end_kept ∙ g.words);
          sides =
              rw (← g.counted)
              (sides_same table table' (2 * count) (λ k a b. cell_kept k (omega (arith, b, going_count))) ∙ g.sides);
          within = g.within;
        }

    pub going_end : (table₀ : List ℕ) → Arrays text₀ table₀ → length book ≤ at → BookRead book text₀ table₀ (Ok (record { letters = letters; relations = count })) text table'
    going_end table₀ a h =
        let b : read_book book ≡ read g.presentation = g.same ∙ from_end g.fuel g.presentation book at h in
        record {
          answer = rw (b, g.counted, g.lettered);
          stored = λ q f. let x : g.presentation ≡ q = cc in subst (λ (t : Presentation). Stored t text table') x going_stored;
          text_long = g.text_long;
          table_long = going_long v table₀ a;
        }

  module _ (h : at < length book) (r : Result RelationFields Refusal) (e : r ≡ relation_at letters count at book at) where
    here : r ≡ relation_at g.presentation.letters (length g.presentation.relations) at book at
    here = rw (← g.counted, ← g.lettered) e

    pub going_refused : (table₀ : List ℕ) → Arrays text₀ table₀ → (x : Refusal) → r ≡ Err x → BookRead book text₀ table₀ (Err x) text table
    going_refused table₀ a x f =
        refused_book book text₀ table₀ x (Err x) text table (g.same ∙ from_refused g.presentation book at h g.fuel g.enough x (sym here ∙ f)) refl g.text_long
        (g.arrays.table_long ∙ sym a.table_long)

    module _ (fields : RelationFields) (f : r ≡ Ok fields) where
      read_here : RelationRead g.presentation.letters (length g.presentation.relations) book at fields.left fields.right fields.end
      read_here = relation_read g.presentation.letters (length g.presentation.relations) at book at fields.left fields.right fields.end (sym here ∙ f)

      pub going_less : length book - fields.end < length book - at
      going_less = let q = read_here in omega (arith, q.behind, q.left_some, q.right_some, q.fits)

      pub going_room : RelationRoom book fields.left fields.right fields.end text table count n
      going_room =
          let q = read_here in
          record {
            letters = g.presentation.letters;
            few = g.within.few;
            within = relation_within g.presentation.letters (length g.presentation.relations) book at fields.left fields.right fields.end q;
            first = omega (arith, q.left_some);
            second = omega (arith, q.right_some);
            inside = q.fits;
            more = omega (arith, q.room, g.counted);
            laid = g.laid;
            before = g.before;
            arrays = g.arrays;
          }

      pub going_more : (text' table' : List ℕ) (n' : ℕ) → RelationAppended book fields.left fields.right fields.end text table count n text' table' n'
          → Going book text₀ letters fields.end (count + 1) n' text' table'
      going_more text' table' n' a =
          let q = read_here in
          let t = from_more g.presentation book at h g.fuel g.enough fields.left fields.right fields.end (sym here ∙ f) in
          record {
            presentation = adding g.presentation (relation_in book fields.left fields.right fields.end);
            lettered = g.lettered;
            counted = simp length-append (omega (arith, g.counted));
            inside = q.fits;
            fuel = t.0;
            enough = omega (arith, q.behind, q.left_some, q.right_some, g.enough, t.1);
            same = g.same ∙ t.2;
            within = within_more g.presentation book at fields.left fields.right fields.end g.within q;
            laid = a.laid;
            before = a.before;
            words = a.words ∙ rw g.words (sym (distinct_more g.presentation.relations (relation_in book fields.left fields.right fields.end)));
            sides = a.sides ∙ rw (g.words, g.sides) (sym (numbers_more g.presentation.relations (relation_in book fields.left fields.right fields.end)));
            text_long = a.text_long ∙ g.text_long;
            arrays = record { text_long = omega (arith, a.text_long, g.arrays.text_long); table_long = a.table_long ∙ g.arrays.table_long };
          }

pub ruleset goings = (head_refused, going_start, going_long, going_end, going_refused, going_less, going_room, going_more, rules)
