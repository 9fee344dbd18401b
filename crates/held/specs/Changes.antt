-- What loading a held book and changing it give (document 01, "Rules that come and go"), for every content of every lent buffer. A change is a value, and one definition
-- says what it comes to.
use Rattle.std.specs.Prelude.{ℕ, ◌*◌, Bool, cond, List, ltb, leb, length}
use Rattle.words.specs.Relations.{relation_words}
use Rattle.words.specs.Writing.{over}
use Rattle.limits.specs.Limits.{sheet_columns, held_room, held_buffer}
use Rattle.refusals.specs.declared.Refusal.{Refusal}
use Rattle.refusals.specs.declared.Refusal.TheVariants.{Narrow, NoSuchRelation, BookWorn}
use Rattle.format.specs.Book.{Presentation, adding, without, BookReading, read, refused, addition_at, relation_in, on_relation}
use Rattle.format.specs.Bytes.{book_bytes}
use Rattle.loading.specs.Loading.{load_book}
use Rattle.loading.specs.Sheet.{cut_sheet}
use Rattle.answers.specs.Answers.{Answer, accepted, refusal}
use Rattle.answers.specs.Entries.{on_loaded}
use Rattle.held.specs.Held.{book_in, changes_after, worn, holding, taken_up}

-- the outcome of loading: an answer, and the lent buffer after it
pub data LoadOutcome : Type 0 where
  after : Answer → List ℕ → LoadOutcome

-- loading a book: 1 to 6 and 8 of its bytes, then 12 of the buffer, else they are held, with no change counted
unfoldable pub load_of : List ℕ → List ℕ → LoadOutcome
load_of book held =
    on_loaded (load_book book) (λ r. LoadOutcome.after (refusal r) held) (λ presentation.
    cond (ltb (length held) held_room) (LoadOutcome.after (refusal (Narrow held_buffer)) held)
    (LoadOutcome.after (accepted (length presentation.relations)) (holding 0 book held)))

-- a change: a relation to add at the end, given as the bytes of its record, or the index of one to withdraw
pub data Change : Type 0 where
  addition : List ℕ → Change
  withdrawal : ℕ → Change

-- what a change makes of a presentation whose book has so many bytes: 1 to 6 of an addition, 15 of a withdrawal, else one relation more or one less
abbrev pub changed : Change → ℕ → Presentation → BookReading
changed (addition bytes) place presentation =
    on_relation (addition_at presentation.letters (length presentation.relations) place bytes) (λ left right to.
    read (adding presentation (relation_in bytes left right to)))
changed (withdrawal i) place presentation = cond (leb (length presentation.relations) i) (refused NoSuchRelation) (read (without presentation i))

-- what it makes of the book that is held
unfoldable pub changed_in : Change → List ℕ → BookReading
changed_in change held = on_loaded (taken_up held) refused (changed change (length (book_in held)))

-- what a change comes to: a refusal, or the number of relations, the bytes and the cut sheet of the new book
pub data Effect : Type 0 where
  refuses : Refusal → Effect
  leads : ℕ → List ℕ → List ℕ → Effect

-- what a new book comes to, beside a buffer of so many bytes for its sheet: 8 of it, then 12 of the buffer
unfoldable pub settled : ℕ → List ℕ → Effect
settled room book =
    on_loaded (load_book book) refuses (λ presentation.
    cond (ltb room (sheet_columns * (2 * length presentation.relations))) (refuses (Narrow 0))
    (leads (length presentation.relations) book (cut_sheet (relation_words presentation.relations))))

-- what a change comes to: the refusals of what is held, and of the change itself; else the bytes of the presentation that it makes are the new book. Proposing,
-- posting and making it directly are told by this one definition
unfoldable pub effect_of : Change → List ℕ → ℕ → Effect
effect_of change held room = on_loaded (changed_in change held) refuses (λ presentation. settled room (book_bytes presentation))

-- a refusal that comes before all others, where it is due, and one that comes behind all others
abbrev pub firstly : Bool → Refusal → Effect → Effect
firstly due r effect = cond due (refuses r) effect

abbrev pub lastly : Bool → Refusal → Effect → Effect
lastly due r (refuses s) = refuses s
lastly due r (leads n book cuts) = cond due (refuses r) (leads n book cuts)

-- the outcome of a change: an answer, and both lent buffers after it
pub data ChangeOutcome : Type 0 where
  after : Answer → List ℕ → List ℕ → ChangeOutcome

-- what a change comes to is made: a refusal keeps both buffers; else the new book is held, with one more change counted, and its sheet is written
abbrev pub made : List ℕ → List ℕ → Effect → ChangeOutcome
made held sheet (refuses r) = ChangeOutcome.after (refusal r) held sheet
made held sheet (leads n book cuts) = ChangeOutcome.after (accepted n) (holding (changes_after held) book held) (over cuts sheet)

-- a change that is made directly: 17 comes behind the refusals of the change
unfoldable pub change_of : Change → List ℕ → List ℕ → ChangeOutcome
change_of change held sheet = made held sheet (lastly (worn held) BookWorn (effect_of change held (length sheet)))
