-- The numbers of the refusals of a change: those of reading are 1 to 6, that of a book that is read is 8, and the others are 12 of a buffer and 15 of an index.
use Prim.Native.Nat.{ℕ, ◌*◌}
use mathlib.Core.Bool.{Bool, true, false, cond}
use mathlib.Core.List.{List}
use lib.Dec.{leb, ltb}
use lib.ListN.{length}
use Rattle.std.specs.Prelude.{Result, Ok, Err}
use Rattle.words.specs.Relations.{relation_words}
use Rattle.overlap.specs.Verdict.{Verdict, judge}
use Rattle.refusals.specs.declared.Refusal.{Refusal}
use Rattle.refusals.specs.Refusals.{number_and_place}
use Rattle.format.specs.declared.RelationFields.{RelationFields}
use Rattle.format.specs.Book.{Presentation, adding, BookReading, read, refused, addition_at, relation_in, on_relation, read_book}
use Rattle.format.specs.Bytes.{book_bytes}
use Rattle.format.proofs.Refused.{RecordRefusal, RelationUpto, addition_upto, BookUpto, book_upto}
use Rattle.loading.specs.Loading.{by_verdict, by_reading, load_book}
use Rattle.answers.specs.Entries.{on_loaded}
use Rattle.held.specs.Held.{book_in, taken_up}
use Rattle.held.specs.Changes.{Change, addition, withdrawal, changed, changed_in, Effect, refuses, leads, settled, effect_of}
use Rattle.held.specs.Postings.{OfChange}

-- a refusal is one of a change itself, by its number
abbrev Own : Refusal → Type 0
Own r = OfChange (number_and_place r).number

-- so is that of a book, if there is one
abbrev OwnReading : BookReading → Type 0
OwnReading (refused r) = Own r
OwnReading (read presentation) = Unit {0}

-- and that of what a change comes to
abbrev pub OwnEffect : Effect → Type 0
OwnEffect (refuses r) = Own r
OwnEffect (leads n book cuts) = Unit {0}

-- the refusals of a record are such
record_own : (place : ℕ) (r : Refusal) → RecordRefusal place r → Own r
record_own place r RecordRefusal.short_there = OfChange.short
record_own place r RecordRefusal.kind_there = OfChange.kind
record_own place r RecordRefusal.length_there = OfChange.misfit
record_own place r RecordRefusal.range_there = OfChange.range
record_own place r RecordRefusal.unknown_there = OfChange.unknown
record_own place r RecordRefusal.many_there = OfChange.thick

-- what is so of both values is so of a choice
of_both : {A : Type 0} (P : A → Type 0) (b : Bool) (x y : A) → P x → P y → P (cond b x y)
of_both P true x y p q = p
of_both P false x y p q = q

-- the refusal of a book that is read
reading_own : (n : ℕ) (o : BookReading) → BookUpto n o → OwnReading o
reading_own n (refused r) (BookUpto.refused_at {place} h k) = record_own place r k
reading_own n (read presentation) BookUpto.read_whole = tt

-- and of one that is loaded
verdict_own : (presentation : Presentation) (v : Verdict) → OwnReading (by_verdict presentation v)
verdict_own presentation Verdict.accepted = tt
verdict_own presentation (Verdict.loose side) = OfChange.loose

load_own : (book : List ℕ) → OwnReading (load_book book)
unfolding load_book
load_own book = go (read_book book) (reading_own (length book) (read_book book) (book_upto book))
  where
    go : (o : BookReading) → OwnReading o → OwnReading (by_reading o)
    go (refused r) s = s
    go (read presentation) s = verdict_own presentation (judge (relation_words presentation.relations))

-- what is held is taken up
taken_own : (held : List ℕ) → OwnReading (taken_up held)
unfolding taken_up
taken_own held =
    of_both OwnReading (ltb (length held) 4297) _ _ OfChange.narrow (reading_own (length (book_in held)) (read_book (book_in held)) (book_upto (book_in held)))

-- a change of it is made
changed_own : (change : Change) (place : ℕ) (presentation : Presentation) → OwnReading (changed change place presentation)
changed_own (addition bytes) place presentation =
    let letters = presentation.letters in
    let count = length presentation.relations in
    go (addition_at letters count place bytes) (addition_upto letters count place bytes)
  where
    go : (o : Result RelationFields Refusal) → RelationUpto (length bytes) place o
        → OwnReading (on_relation o (λ left right to. read (adding presentation (relation_in bytes left right to))))
    go (Err r) (RelationUpto.refused_at k) = record_own place r k
    go (Ok fields) k = tt
changed_own (withdrawal i) place presentation = of_both OwnReading (leb (length presentation.relations) i) _ _ OfChange.absent tt

-- a refusal that was there, and what comes behind it
of_loaded : {A : Type 0} (P : A → Type 0) (o : BookReading) (stop : Refusal → A) (next : Presentation → A) → OwnReading o
    → ((r : Refusal) → Own r → P (stop r)) → ((presentation : Presentation) → P (next presentation)) → P (on_loaded o stop next)
of_loaded P (refused r) stop next s p q = p r s
of_loaded P (read presentation) stop next s p q = q presentation

change_own : (change : Change) (held : List ℕ) → OwnReading (changed_in change held)
unfolding changed_in
change_own change held =
    of_loaded OwnReading (taken_up held) refused (changed change (length (book_in held))) (taken_own held) (λ r s. s)
    (changed_own change (length (book_in held)))

-- the new book is settled
settled_own : (room : ℕ) (book : List ℕ) → OwnEffect (settled room book)
unfolding settled
settled_own room book =
    of_loaded OwnEffect (load_book book) refuses _ (load_own book) (λ r s. s) (λ presentation.
    of_both OwnEffect (ltb room (4 * (2 * length presentation.relations))) _ _ OfChange.narrow tt)

-- so every refusal of what a change comes to is one of the change itself
pub effect_own : (change : Change) (held : List ℕ) (room : ℕ) → OwnEffect (effect_of change held room)
unfolding effect_of
effect_own change held room =
    of_loaded OwnEffect (changed_in change held) refuses _ (change_own change held) (λ r s. s) (λ presentation.
    settled_own room (book_bytes presentation))
