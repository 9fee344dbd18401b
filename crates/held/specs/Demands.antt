-- What is owed of held books, in the words of the papers (document 01, "Rules that come and go"), said of the definitions of specs/Changes.antt.
use Rattle.std.specs.Prelude.{ℕ, ◌*◌, ◌-◌, ◌<◌, ◌≤◌, List, [], ◌∷◌, ◌≡◌, length}
use Rattle.words.specs.Relations.{relation_words}
use Rattle.words.specs.Writing.{over}
use Rattle.limits.specs.Limits.{sheet_columns, held_room, changes_most}
use Rattle.format.specs.Book.{Presentation, without, read}
use Rattle.format.specs.Bytes.{AreBytes, book_bytes, Within}
use Rattle.loading.specs.Loading.{load_book}
use Rattle.loading.specs.Sheet.{cut_sheet}
use Rattle.answers.specs.Answers.{accepted, refused}
use Rattle.answers.specs.Entries.{SheetOutcome, sheet_of}
use Rattle.held.specs.Held.{book_in, changes_in, changes_told, changes_after, held_bytes, holding}
use Rattle.held.specs.Changes.{LoadOutcome, load_of, Change, addition, withdrawal, changed, ChangeOutcome, change_of}
use Rattle.held.specs.Tickets.{change_in, post_of}

-- a buffer holds a presentation: it has the room of a held book, what it holds loads as this presentation, and is its bytes
pub record Holds (held : List ℕ) (presentation : Presentation) : Type 0 where
  pub room : held_room ≤ length held
  pub loads : load_book (book_in held) ≡ read presentation
  pub written : book_in held ≡ book_bytes presentation

-- the room of a held book suffices for every presentation within the limits, 32 relations at their longest among them
abbrev pub HeldFits : Type 0
HeldFits = (changes : ℕ) (presentation : Presentation) → Within presentation → length (held_bytes changes (book_bytes presentation)) ≤ held_room

-- whatever bytes a buffer with that room has, altered or not: where they load, they hold what was loaded
abbrev pub LoadedHolds : Type 0
LoadedHolds = (held : List ℕ) (presentation : Presentation) → AreBytes held → held_room ≤ length held → load_book (book_in held) ≡ read presentation → Holds held presentation

-- loading an accepted book into a buffer with that room holds it, with no change counted
pub record LoadingHolds (book held : List ℕ) (presentation : Presentation) : Type 0 where
  pub after : List ℕ
  pub is : load_of book held ≡ LoadOutcome.after (accepted (length presentation.relations)) after
  pub holds : Holds after presentation
  pub same : book_in after ≡ book
  pub unchanged : changes_in after ≡ 0

abbrev pub LoadingsHold : Type 0
LoadingsHold = (book held : List ℕ) (presentation : Presentation) → AreBytes book → load_book book ≡ read presentation → held_room ≤ length held → LoadingHolds book held presentation

-- a refused loading leaves the lent buffer as it was
abbrev pub LoadingsKeep : Type 0
LoadingsKeep = (book held : List ℕ) (n place : ℕ) (held' : List ℕ) → load_of book held ≡ LoadOutcome.after (refused n place) held' → held' ≡ held

-- a refused change leaves both lent buffers as they were
abbrev pub RefusedKeeps : Type 0
RefusedKeeps = (change : Change) (held sheet : List ℕ) (n place : ℕ) (held' sheet' : List ℕ)
    → change_of change held sheet ≡ ChangeOutcome.after (refused n place) held' sheet' → (held' ≡ held) × (sheet' ≡ sheet)

-- a withdrawal from what a buffer holds: 15 where there is no such relation, before all else; 12 where the sheet of the relations that are left has no room; 17 where
-- no more changes are taken; else they are held, and their sheet is written. So it is never refused by 8
pub record Withdraws (held sheet : List ℕ) (presentation : Presentation) (i : ℕ) : Type 0 where
  pub absent : length presentation.relations ≤ i → change_of (withdrawal i) held sheet ≡ ChangeOutcome.after (refused 15 0) held sheet
  pub narrow : i < length presentation.relations → length sheet < sheet_columns * (2 * (length presentation.relations - 1))
      → change_of (withdrawal i) held sheet ≡ ChangeOutcome.after (refused 12 0) held sheet
  pub worn : i < length presentation.relations → sheet_columns * (2 * (length presentation.relations - 1)) ≤ length sheet → changes_most ≤ changes_told held
      → change_of (withdrawal i) held sheet ≡ ChangeOutcome.after (refused 17 0) held sheet
  pub roomy : i < length presentation.relations → sheet_columns * (2 * (length presentation.relations - 1)) ≤ length sheet → changes_told held < changes_most
      → change_of (withdrawal i) held sheet
      ≡ ChangeOutcome.after (accepted (length presentation.relations - 1)) (holding (changes_after held) (book_bytes (without presentation i)) held) (over (cut_sheet (relation_words (without presentation i).relations)) sheet)

abbrev pub WithdrawalsHold : Type 0
WithdrawalsHold = (held sheet : List ℕ) (presentation : Presentation) (i : ℕ) → Holds held presentation → Withdraws held sheet presentation i

-- an addition is accepted only where what is held loads: a book that fails C(4) fails it with one relation more
abbrev pub AdditionsNeedC4 : Type 0
AdditionsNeedC4 = (bytes held sheet : List ℕ) (n : ℕ) (held' sheet' : List ℕ) → AreBytes held
    → change_of (addition bytes) held sheet ≡ ChangeOutcome.after (accepted n) held' sheet' → (presentation : Presentation) × Holds held presentation

-- from one held book to another by accepted changes, made directly or posted, the last one first, each with a sheet buffer of its own
pub data Changes : List ℕ → List Change → List ℕ → Type 0 where
  none : {held : List ℕ} → Changes held [] held
  more : {held held' held'' : List ℕ} {changes : List Change} (change : Change) (lent sheet : List ℕ) (n : ℕ) → Changes held changes held'
      → change_of change held' lent ≡ ChangeOutcome.after (accepted n) held'' sheet → Changes held (change ∷ changes) held''
  posted : {held held' held'' : List ℕ} {changes : List Change} (ticket lent sheet : List ℕ) (n : ℕ) → Changes held changes held'
      → post_of ticket held' lent ≡ ChangeOutcome.after (accepted n) held'' sheet → Changes held (change_in ticket ∷ changes) held''

-- the same of presentations
pub data ChangesTo : Presentation → List Change → Presentation → Type 0 where
  none : {presentation : Presentation} → ChangesTo presentation [] presentation
  more : {first before after : Presentation} {changes : List Change} (change : Change) → ChangesTo first changes before
      → changed change (length (book_bytes before)) before ≡ read after → ChangesTo first (change ∷ changes) after

-- after any list of accepted changes, what is held is the bytes of the presentation that they make of the first
pub record Fresh (presentation : Presentation) (changes : List Change) (held : List ℕ) : Type 0 where
  pub after : Presentation
  pub made : ChangesTo presentation changes after
  pub holds : Holds held after
  -- and the sheet that one more change writes is the one that is worked out afresh from the bytes that are held then, in the same buffer
  pub sheets : (change : Change) (lent : List ℕ) (n : ℕ) (held' sheet : List ℕ) → change_of change held lent ≡ ChangeOutcome.after (accepted n) held' sheet
      → sheet_of (book_in held') lent ≡ SheetOutcome.after (accepted n) sheet

abbrev pub ChangesFresh : Type 0
ChangesFresh = (held held' : List ℕ) (presentation : Presentation) (changes : List Change) → Holds held presentation → Changes held changes held' → Fresh presentation changes held'

-- what was added and is withdrawn again, where one more change is taken, leaves the book as it was, and its sheet
pub record Undone (held held' lent : List ℕ) (presentation : Presentation) : Type 0 where
  pub after : List ℕ
  pub sheet : List ℕ
  pub is : change_of (withdrawal (length presentation.relations)) held' lent ≡ ChangeOutcome.after (accepted (length presentation.relations)) after sheet
  pub same : book_in after ≡ book_in held
  pub fresh : sheet_of (book_in held) lent ≡ SheetOutcome.after (accepted (length presentation.relations)) sheet

abbrev pub AdditionsUndone : Type 0
AdditionsUndone = (bytes held sheet : List ℕ) (n : ℕ) (held' sheet' lent : List ℕ) (presentation : Presentation) → Holds held presentation
    → change_of (addition bytes) held sheet ≡ ChangeOutcome.after (accepted n) held' sheet'
    → changes_told held' < changes_most → sheet_columns * (2 * length presentation.relations) ≤ length lent → Undone held held' lent presentation
