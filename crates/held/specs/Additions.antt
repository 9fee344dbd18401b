-- What is owed of an addition to a held book (document 01, "Rules that come and go"): it is judged as if its record stood at the end of the book, by 1 to 6, 8 and 12,
-- no bytes at all being 1 and bytes behind the record being 3. Said of the definitions of specs/Changes.antt, beside the sheet of the bytes of both.
use Rattle.std.specs.Prelude.{ℕ, ◌<◌, ◌≤◌, List, [], ◌++◌, ◌⊎◌, ◌≡◌, length, Some}
use Rattle.limits.specs.Limits.{relation_kind, relations_most, changes_most}
use Rattle.format.specs.Book.{Presentation, record_at}
use Rattle.format.specs.Bytes.{AreBytes}
use Rattle.answers.specs.Answers.{accepted, refused}
use Rattle.answers.specs.Entries.{SheetOutcome, sheet_of}
use Rattle.held.specs.Held.{book_in, changes_told, changes_after, holding}
use Rattle.held.specs.Changes.{addition, ChangeOutcome, change_of}
use Rattle.held.specs.Demands.{Holds}

-- bytes that are one record, or end inside it: there are some, and none stands behind a whole record
pub record OneRecord (bytes : List ℕ) : Type 0 where
  pub some : 1 ≤ length bytes
  pub alone : (kind from to : ℕ) → record_at bytes 0 ≡ Some (record { kind = kind; from = from; to = to }) → to ≡ length bytes

-- such bytes that are added, beside the sheet of the held book with these bytes at its end, in the same buffer. Places are the same: those of bytes count from the start
-- of the book, those of sides from its first relation
pub record AddsAtTheEnd (bytes held sheet : List ℕ) : Type 0 where
  -- what that book or its sheet is refused by, the addition is refused by, at the same place, whatever the count of changes is; both buffers are kept
  pub refuses : (n place : ℕ) (sheet' : List ℕ) → sheet_of (book_in held ++ bytes) sheet ≡ SheetOutcome.after (refused n place) sheet'
      → change_of (addition bytes) held sheet ≡ ChangeOutcome.after (refused n place) held sheet
  -- where that book has its sheet, it is held, with one more change counted, and its sheet is the one that is written
  pub accepts : (n : ℕ) (sheet' : List ℕ) → sheet_of (book_in held ++ bytes) sheet ≡ SheetOutcome.after (accepted n) sheet' → changes_told held < changes_most
      → change_of (addition bytes) held sheet ≡ ChangeOutcome.after (accepted n) (holding (changes_after held) (book_in held ++ bytes) held) sheet'
  -- or 17 where no more changes are taken
  pub worn : (n : ℕ) (sheet' : List ℕ) → sheet_of (book_in held ++ bytes) sheet ≡ SheetOutcome.after (accepted n) sheet' → changes_most ≤ changes_told held
      → change_of (addition bytes) held sheet ≡ ChangeOutcome.after (refused 17 0) held sheet
  -- a sheet has no other outcome
  pub only : ((n : ℕ) × (place : ℕ) × (sheet_of (book_in held ++ bytes) sheet ≡ SheetOutcome.after (refused n place) sheet))
      ⊎ ((n : ℕ) × (sheet' : List ℕ) × (sheet_of (book_in held ++ bytes) sheet ≡ SheetOutcome.after (accepted n) sheet'))

-- the refusals of an addition by number and place: 1 to 6 where its record would begin, 8 at a side, 12 of the sheet, and 17
pub data OfAddition (start : ℕ) : ℕ → ℕ → Type 0 where
  of_record : (n : ℕ) → 1 ≤ n → n ≤ 6 → OfAddition start n start
  loose : (side : ℕ) → OfAddition start 8 side
  narrow : OfAddition start 12 0
  worn : OfAddition start 17 0

-- of a book that is held, and whatever bytes are added
pub record Adds (held sheet : List ℕ) (presentation : Presentation) : Type 0 where
  -- bytes that are one record, or end inside it
  pub one : (bytes : List ℕ) → AreBytes bytes → OneRecord bytes → AddsAtTheEnd bytes held sheet
  -- no bytes at all: 1, where a record would begin
  pub none : change_of (addition []) held sheet ≡ ChangeOutcome.after (refused 1 (length (book_in held))) held sheet
  -- a whole record, with bytes behind it or none: 2 where it is none of a relation; 6 where it is a 33rd one; and with bytes behind it 3, whatever its fields say
  pub kind : (bytes : List ℕ) (kind from to : ℕ) → record_at bytes 0 ≡ Some (record { kind = kind; from = from; to = to }) → ¬ (kind ≡ relation_kind)
      → change_of (addition bytes) held sheet ≡ ChangeOutcome.after (refused 2 (length (book_in held))) held sheet
  pub many : (bytes : List ℕ) (from to : ℕ) → record_at bytes 0 ≡ Some (record { kind = relation_kind; from = from; to = to }) → relations_most ≤ length presentation.relations
      → change_of (addition bytes) held sheet ≡ ChangeOutcome.after (refused 6 (length (book_in held))) held sheet
  pub behind : (bytes : List ℕ) (from to : ℕ) → record_at bytes 0 ≡ Some (record { kind = relation_kind; from = from; to = to }) → length presentation.relations < relations_most → to < length bytes
      → change_of (addition bytes) held sheet ≡ ChangeOutcome.after (refused 3 (length (book_in held))) held sheet
  -- there is no other refusal, whatever the bytes are
  pub numbers : (bytes : List ℕ) (n place : ℕ) (held' sheet' : List ℕ) → change_of (addition bytes) held sheet ≡ ChangeOutcome.after (refused n place) held' sheet'
      → OfAddition (length (book_in held)) n place

abbrev pub AdditionsAtTheEnd : Type 0
AdditionsAtTheEnd = (held sheet : List ℕ) (presentation : Presentation) → Holds held presentation → Adds held sheet presentation
