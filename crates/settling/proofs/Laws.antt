-- A law for each way that settling a new book and changing a held book can go.
use Prim.Native.Nat.{ℕ, ◌+◌, ◌*◌, ◌<◌, ◌≤◌}
use mathlib.Core.Bool.{Bool, true, false}
use mathlib.Core.List.{List}
use mathlib.Core.Path.{◌≡◌, refl, sym, ap, ◌∙◌}
use native.Mathlib.Omega.{arith}
use borrow.Author.Rules.{rules}
use borrow.Author.Tests.{lt-ltb, le-ltb, lt-leb, le-leb}
use lib.Dec.{ltb}
use lib.ListN.{length, take, length-take}
use mir.Syntax.{w64}
use mir.Val.{Fits}
use Rattle.std.specs.Prelude.{Result, Ok, Err}
use Rattle.words.specs.Relations.{relation_words}
use Rattle.words.specs.Writing.{over}
use Rattle.limits.specs.Limits.{sheet_columns, changes_most}
use Rattle.refusals.specs.declared.Refusal.{Refusal}
use Rattle.refusals.specs.declared.Refusal.TheVariants.{Narrow, BookWorn}
use Rattle.format.specs.Book.{Presentation, BookReading, read}
use Rattle.loading.specs.Loading.{load_book}
use Rattle.loading.specs.Sheet.{cut_sheet}
use Rattle.answers.specs.Answers.{accepted, refusal, of_verdict}
use Rattle.answers.specs.Entries.{check_of, SheetOutcome, sheet_of}
use Rattle.held.specs.Held.{changes_told, worn, holding}
use Rattle.held.specs.Changes.{Change, Effect, refuses, leads, settled, effect_of, lastly, ChangeOutcome, made, change_of}
use Rattle.held.proofs.Effects.{lastly_none}
use Rattle.held.proofs.Steps.{loaded_within}
use Rattle.holding.specs.Held.{Holdable}
use Rattle.renewing.specs.Making.{NewMade}
use Rattle.settling.specs.Settling.{answered, Settleable, Takeable}
use Rattle.settling.proofs.Checks.{accepted_or_refused, accepted_loaded, refused_loaded}

-- refusing a new book, by its check
module _ (book sheet : List ℕ) (last : Refusal) where
  -- a refused book goes straight back
  pub last_refused : (r : Refusal) → of_verdict (Err r) ≡ check_of book → of_verdict (Err r) ≡ answered (lastly true last (settled (length sheet) book))
  unfolding settled
  last_refused r e = let (x, f, d) = refused_loaded book r e in rw (f, d)

  module _ (n : ℕ) (e : of_verdict (Ok n) ≡ check_of book) where
    -- it has at most 32 relations, so that the bytes of its sheet are a number of the machine
    relations_few : n ≤ 32
    relations_few = let (p, f, m) = accepted_loaded book n e in omega (arith, (loaded_within book p f).few_relations)

    pub last_sides : Fits w64 (2 * n)
    last_sides = omega (arith, relations_few)

    pub last_bytes : Fits w64 (4 * (2 * n))
    last_bytes = omega (arith, relations_few)

    -- the sheet's buffer is too small
    pub last_narrow : length sheet < 4 * (2 * n) → of_verdict (Err (Narrow 0)) ≡ answered (lastly true last (settled (length sheet) book))
    unfolding settled
    last_narrow h =
        let (p, f, m) = accepted_loaded book n e in
        rw (f, lt-ltb (length sheet) (4 * (2 * length p.relations)) (omega arith))

    -- else the refusal that comes behind
    pub last_last : 4 * (2 * n) ≤ length sheet → of_verdict (Err last) ≡ answered (lastly true last (settled (length sheet) book))
    unfolding settled
    last_last h =
        let (p, f, m) = accepted_loaded book n e in
        rw (f, le-ltb (length sheet) (4 * (2 * length p.relations)) (omega arith))

pub ruleset lasts = (last_refused, last_sides, last_bytes, last_narrow, last_last, rules)

-- what a new book comes to, beside the answer of its sheet: a refusal that keeps the buffer, or a sheet that is written
pub data Settles (book sheet : List ℕ) : Type 0 where
  refusing : (r : Refusal) → sheet_of book sheet ≡ SheetOutcome.after (refusal r) sheet → settled (length sheet) book ≡ refuses r → Settles book sheet
  leading : (n : ℕ) (cuts : List ℕ) → sheet_of book sheet ≡ SheetOutcome.after (accepted n) (over cuts sheet) → settled (length sheet) book ≡ leads n book cuts
      → Settles book sheet

settles_so : (book sheet : List ℕ) → Settles book sheet
unfolding sheet_of settled
settles_so book sheet = by_loading_lem (load_book book) refl
  where
    by_room : (p : Presentation) → load_book book ≡ read p → (b : Bool) → ltb (length sheet) (sheet_columns * (2 * length p.relations)) ≡ b
        → Settles book sheet
    by_room p f true g = refusing (Narrow 0) (rw (f, g)) (rw (f, g))
    by_room p f false g = leading (length p.relations) (cut_sheet (relation_words p.relations)) (rw (f, g)) (rw (f, g))

    by_loading_lem : (x : BookReading) → load_book book ≡ x → Settles book sheet
    by_loading_lem (BookReading.read p) f = by_room p f (ltb (length sheet) (sheet_columns * (2 * length p.relations))) refl
    by_loading_lem (BookReading.refused r) f = refusing r (rw f) (rw f)

-- a sheet that is refused: the new book has that refusal, and the buffer is kept
pub record SheetKept (book sheet : List ℕ) (r : Refusal) (sheet' : List ℕ) : Type 0 where
  pub why : Refusal
  pub is : settled (length sheet) book ≡ refuses why
  pub says : of_verdict (Err r) ≡ refusal why
  pub same : sheet' ≡ sheet

-- a sheet that is written: it is that of the new book
pub record SheetWritten (book sheet : List ℕ) (n : ℕ) (sheet' : List ℕ) : Type 0 where
  pub count : ℕ
  pub cuts : List ℕ
  pub is : settled (length sheet) book ≡ leads count book cuts
  pub says : of_verdict (Ok n) ≡ accepted count
  pub same : sheet' ≡ over cuts sheet

-- what a new book comes to, by the answer of its sheet
module _ (book sheet sheet' : List ℕ) where
  pub sheet_refused : (r : Refusal) → SheetOutcome.after (of_verdict (Err r)) sheet' ≡ sheet_of book sheet → SheetKept book sheet r sheet'
  sheet_refused r e = go (settles_so book sheet)
    where
      go : Settles book sheet → SheetKept book sheet r sheet'
      go (refusing x f g) = record { why = x; is = g; says = cc; same = cc }
      go (leading n cuts f g) =
          let o : refusal r ≡ accepted n = cc in
          absurd (accepted_or_refused n r (sym o))

  pub sheet_accepted : (n : ℕ) → SheetOutcome.after (of_verdict (Ok n)) sheet' ≡ sheet_of book sheet → SheetWritten book sheet n sheet'
  sheet_accepted n e = go (settles_so book sheet)
    where
      go : Settles book sheet → SheetWritten book sheet n sheet'
      go (refusing x f g) =
          let o : accepted n ≡ refusal x = cc in
          absurd (accepted_or_refused n x o)
      go (leading m cuts f g) = record { count = m; cuts = cuts; is = g; says = cc; same = cc }

  module _ (held : List ℕ) where
    -- a refused sheet keeps both buffers
    pub place_refused : (r : Refusal) → SheetOutcome.after (of_verdict (Err r)) sheet' ≡ sheet_of book sheet
        → ChangeOutcome.after (of_verdict (Err r)) held sheet' ≡ made held sheet (settled (length sheet) book)
    place_refused r e = let s = sheet_refused r e in rw s.is (cc (s.says, s.same))

    -- an accepted one has its book held, with one more change counted
    pub place_held : (n : ℕ) → SheetOutcome.after (of_verdict (Ok n)) sheet' ≡ sheet_of book sheet → (changes : ℕ) → changes ≡ changes_told held
        → (held' : List ℕ) → held' ≡ holding (changes + 1) book held
        → ChangeOutcome.after (of_verdict (Ok n)) held' sheet' ≡ made held sheet (settled (length sheet) book)
    place_held n e changes c held' q = let s = sheet_accepted n e in rw s.is (cc (s.says, s.same, q, c))

-- one more change can be counted
module _ (book held : List ℕ) (t : Takeable book held) (changes : ℕ) (c : changes ≡ changes_told held) where
  pub place_counted : Fits w64 (changes + 1)
  place_counted = omega arith

  -- so that the book can be held
  pub place_holdable : Holdable book (changes + 1) held
  place_holdable = record { few = t.few; counted = omega arith; room = t.room }

pub ruleset places = (place_refused, place_held, place_counted, place_holdable, rules)

-- a refusal behind all others that is due keeps the buffers
late_made : (held sheet : List ℕ) (last : Refusal) (x : Effect)
    → made held sheet (lastly true last x) ≡ ChangeOutcome.after (answered (lastly true last x)) held sheet
late_made held sheet last (refuses r) = refl
late_made held sheet last (leads n book cuts) = refl

-- settling a new book, by the count of changes
module _ (book held sheet : List ℕ) (changes : ℕ) (c : changes ≡ changes_told held) where
  -- no more changes are taken
  pub settle_worn : changes_most ≤ changes → (v : Result ℕ Refusal) → of_verdict v ≡ answered (lastly true BookWorn (settled (length sheet) book))
      → ChangeOutcome.after (of_verdict v) held sheet ≡ made held sheet (lastly (worn held) BookWorn (settled (length sheet) book))
  settle_worn h v e = rw (le-leb changes_most (changes_told held) (omega arith), e) (sym (late_made held sheet BookWorn (settled (length sheet) book)))

  module _ (h : changes < changes_most) where
    -- one more is taken
    pub settle_takeable : Settleable book held → Takeable book held
    settle_takeable s = record { few = s.few; room = s.room; more = omega arith }

    -- and the book takes its place
    pub settle_placed : (x : ChangeOutcome) → x ≡ made held sheet (settled (length sheet) book)
        → x ≡ made held sheet (lastly (worn held) BookWorn (settled (length sheet) book))
    settle_placed x e = rw (lt-leb changes_most (changes_told held) (omega arith), lastly_none BookWorn (settled (length sheet) book)) e

pub ruleset settles = (settle_worn, settle_takeable, settle_placed, rules)

-- a change, by the new book that is made
module _ (change : Change) (held fresh fresh' : List ℕ) where
  -- what the change comes to: its refusal
  pub effect_refused : (r : Refusal) → NewMade change held fresh (Err r) fresh' → (room : ℕ) → effect_of change held room ≡ refuses r
  unfolding effect_of
  effect_refused r m room = rw (m.refuses r refl)

  -- a change that is refused keeps both buffers
  pub change_refused : (sheet : List ℕ) (r : Refusal) → NewMade change held fresh (Err r) fresh'
      → ChangeOutcome.after (of_verdict (Err r)) held sheet ≡ change_of change held sheet
  unfolding change_of
  change_refused sheet r m = rw (effect_refused r m (length sheet))

  module _ (n : ℕ) (m : NewMade change held fresh (Ok n) fresh') where
    -- the new book lies in the array, with so many bytes
    pub book_inside : n ≤ length fresh'
    book_inside = (m.book n refl).inside

    pub book_long : n ≡ length (take n fresh')
    book_long = omega (arith, length-take n fresh', (m.book n refl).inside)

    -- what the change comes to: what the new book does
    pub effect_settled : (room : ℕ) → effect_of change held room ≡ settled room (take n fresh')
    unfolding effect_of
    effect_settled room = let b = m.book n refl in rw (b.is, b.bytes)

    -- it can be settled
    pub change_settleable : Settleable (take n fresh') held
    change_settleable = let b = m.book n refl in record { few = omega (arith, length-take n fresh', b.few); room = b.room }

    -- and its settling is the change
    pub change_settled : (sheet : List ℕ) (x : ChangeOutcome) → x ≡ made held sheet (lastly (worn held) BookWorn (settled (length sheet) (take n fresh')))
        → x ≡ change_of change held sheet
    unfolding change_of
    change_settled sheet x q = rw (effect_settled (length sheet)) q

pub ruleset changes = (change_refused, book_inside, book_long, change_settleable, change_settled, rules)
