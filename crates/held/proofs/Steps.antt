-- What an accepted change goes through: the book that is held is read, the change makes a presentation of it, and that one loads and has a sheet.
use Prim.Native.Nat.{ℕ, ◌*◌, ◌≤◌}
use mathlib.Core.List.{List}
use mathlib.Core.Path.{◌≡◌, refl, sym, ap, ◌∙◌, subst}
use native.Mathlib.Omega.{arith}
use borrow.Author.Tests.{le-ltb, ltb-false}
use lib.Dec.{leb, ltb}
use lib.ListN.{length}
use Rattle.std.specs.Prelude.{Result, Ok, Err}
use Rattle.words.specs.Relations.{relation_words}
use Rattle.overlap.specs.Verdict.{Verdict, judge}
use Rattle.words.specs.Writing.{over}
use Rattle.limits.specs.Limits.{sheet_columns, held_room}
use Rattle.refusals.specs.declared.Refusal.{Refusal}
use Rattle.refusals.specs.declared.Refusal.TheVariants.{Narrow}
use Rattle.format.specs.declared.RelationFields.{RelationFields}
use Rattle.format.specs.Book.{Presentation, adding, without, BookReading, read, refused, addition_at, relation_in, read_book}
use Rattle.format.specs.Bytes.{book_bytes, Within}
use Rattle.format.proofs.Readings.{passed, read_within}
use Rattle.format.proofs.Bytes.{read_bytes}
use Rattle.format.proofs.Unique.{without_within, adding_within}
use Rattle.format.proofs.Additions.{addition_within, addition_few}
use Rattle.loading.specs.Loading.{by_verdict, load_book}
use Rattle.loading.specs.Sheet.{cut_sheet}
use Rattle.answers.specs.Answers.{accepted}
use Rattle.answers.specs.Entries.{on_loaded}
use Rattle.held.specs.Held.{book_in, changes_after, holding, taken_up}
use Rattle.held.specs.Changes.{Change, addition, withdrawal, changed, changed_in, Effect, refuses, leads, settled, effect_of, ChangeOutcome, change_of}
use Rattle.held.proofs.Effects.{leads_or_refuses, change_accepted}

-- nothing is read and refused
pub read_or_refused : (presentation : Presentation) (r : Refusal) → refused r ≡ read presentation → ⊥
read_or_refused presentation r e = let z : ◌≡◌ {A = ℕ} 0 1 = cc in omega arith

-- where a refusal would give something else, there was a presentation
pub passed_loaded : {A : Type 0} (o : BookReading) (stop : Refusal → A) (next : Presentation → A) (good : A) → ((r : Refusal) → stop r ≡ good → ⊥)
    → on_loaded o stop next ≡ good → (presentation : Presentation) × (o ≡ read presentation) × (next presentation ≡ good)
passed_loaded (BookReading.read presentation) stop next good f e = (presentation, refl, e)
passed_loaded (BookReading.refused r) stop next good f e = absurd (f r e)

-- what is loaded was read, and its sides are accepted
verdict_passed : (q p : Presentation) (v : Verdict) → by_verdict q v ≡ read p → (q ≡ p) × (v ≡ Verdict.accepted)
verdict_passed q p Verdict.accepted e = let x : q ≡ p = cc in (x, refl)
verdict_passed q p (Verdict.loose i) e = absurd (read_or_refused p _ e)

pub loaded_read : (book : List ℕ) (presentation : Presentation) → load_book book ≡ read presentation
    → (read_book book ≡ read presentation) × (judge (relation_words presentation.relations) ≡ Verdict.accepted)
unfolding load_book
loaded_read book presentation e = go (read_book book) refl
  where
    go : (o : BookReading) → read_book book ≡ o → (read_book book ≡ read presentation) × (judge (relation_words presentation.relations) ≡ Verdict.accepted)
    go (BookReading.read q) f =
        let (x, v) = verdict_passed q presentation (judge (relation_words q.relations)) (rw f at e) in
        (f ∙ ap read x, subst (λ (p : Presentation). judge (relation_words p.relations) ≡ Verdict.accepted) x v)
    go (BookReading.refused r) f = absurd (read_or_refused presentation r (rw f at e))

pub loaded_within : (book : List ℕ) (presentation : Presentation) → load_book book ≡ read presentation → Within presentation
loaded_within book presentation e = read_within book presentation (loaded_read book presentation e).0

-- what was read is loaded, where its sides are accepted
pub read_loads : (book : List ℕ) (presentation : Presentation) → read_book book ≡ read presentation
    → judge (relation_words presentation.relations) ≡ Verdict.accepted → load_book book ≡ read presentation
unfolding load_book
read_loads book presentation e v = rw (e, v)

-- what is held is taken up: the buffer has the room of a held book, and the book in it is read as this presentation
pub record Taken (held : List ℕ) (presentation : Presentation) : Type 0 where
  pub room : held_room ≤ length held
  pub is : read_book (book_in held) ≡ read presentation

-- a change of it
pub changed_in_lem : (change : Change) (held : List ℕ) (presentation : Presentation) → Taken held presentation
    → changed_in change held ≡ changed change (length (book_in held)) presentation
unfolding changed_in taken_up
changed_in_lem change held presentation t = rw (le-ltb (length held) 4297 t.room, t.is)

-- a change that is made was made of what is held
pub taken_of : (change : Change) (held : List ℕ) (after : Presentation) → changed_in change held ≡ read after
    → (presentation : Presentation) × (Taken held presentation) × (changed change (length (book_in held)) presentation ≡ read after)
unfolding changed_in taken_up
taken_of change held after e =
    let (presentation, o, f) = passed_loaded (taken_up held) refused (changed change (length (book_in held))) (read after) (read_or_refused after) e in
    let (room, is) = passed (ltb (length held) 4297) _ (read_book (book_in held)) (read presentation) (read_or_refused presentation _) o in
    (presentation, record { room = ltb-false (length held) 4297 room; is = is }, f)

-- an addition that is made adds the relation that was read
pub added : (bytes : List ℕ) (place : ℕ) (presentation after : Presentation) → changed (addition bytes) place presentation ≡ read after
    → (left : ℕ) × (right : ℕ) × (to : ℕ) × (addition_at presentation.letters (length presentation.relations) place bytes ≡ Ok (record { left = left; right = right; end = to }))
    × (after ≡ adding presentation (relation_in bytes left right to))
added bytes place presentation after e = go (addition_at presentation.letters (length presentation.relations) place bytes) refl
  where
    go : (o : Result RelationFields Refusal) → addition_at presentation.letters (length presentation.relations) place bytes ≡ o
        → (left : ℕ) × (right : ℕ) × (to : ℕ) × (addition_at presentation.letters (length presentation.relations) place bytes ≡ Ok (record { left = left; right = right; end = to }))
        × (after ≡ adding presentation (relation_in bytes left right to))
    go (Err r) f = absurd (read_or_refused after r (rw f at e))
    go (Ok fields) f =
        let g : read (adding presentation (relation_in bytes fields.left fields.right fields.end)) ≡ read after = rw f at e in
        (fields.left, fields.right, fields.end, f, cc)

-- a change keeps the limits
pub changed_within : (change : Change) (place : ℕ) (presentation after : Presentation) → Within presentation → changed change place presentation ≡ read after
    → Within after
changed_within (addition bytes) place presentation after w e =
    let (left, right, to, f, g) = added bytes place presentation after e in
    let letters = presentation.letters in
    let count = length presentation.relations in
    let v = addition_within letters count place bytes left right to f in
    let few = addition_few letters count place bytes left right to f in
    subst Within (sym g) (adding_within presentation (relation_in bytes left right to) w v few)
changed_within (withdrawal i) place presentation after w e =
    let (b, f) = passed (leb (length presentation.relations) i) _ _ (read after) (read_or_refused after _) e in
    let g : without presentation i ≡ after = cc in
    subst Within g (without_within presentation i w)

-- where a new book with so many relations leads: to its bytes, and to the sheet of its presentation
abbrev pub leads_to : List ℕ → Presentation → ℕ → Effect
leads_to book presentation n = leads n book (cut_sheet (relation_words presentation.relations))

-- that is so where it loads and its sheet has room
pub settles : (room : ℕ) (book : List ℕ) (presentation : Presentation) → load_book book ≡ read presentation
    → sheet_columns * (2 * length presentation.relations) ≤ room → settled room book ≡ leads_to book presentation (length presentation.relations)
unfolding settled
settles room book presentation e h = rw (e, le-ltb room (4 * (2 * length presentation.relations)) h)

-- the parts of effects that are the same
effect_parts : (m n : ℕ) (book cuts book' cuts' : List ℕ) → leads m book cuts ≡ leads n book' cuts' → (n ≡ m) × (book' ≡ book) × (cuts' ≡ cuts)
effect_parts m n book cuts book' cuts' e =
    let a : n ≡ m = cc in
    let b : book' ≡ book = cc in
    let c : cuts' ≡ cuts = cc in
    (a, b, c)

module _ (room : ℕ) (book : List ℕ) (n : ℕ) (book' cuts : List ℕ) (e : settled room book ≡ leads n book' cuts) where
  -- a new book that leads somewhere loads
  settled_loads : (presentation : Presentation) × (load_book book ≡ read presentation)
  unfolding settled
  settled_loads =
      let (presentation, l, f) = passed_loaded (load_book book) _ _ _ (λ r. leads_or_refuses r n book' cuts) e in
      (presentation, l)

  -- its sheet has room, and both are what it leads to
  settled_parts : (presentation : Presentation) → load_book book ≡ read presentation
      → (sheet_columns * (2 * length presentation.relations) ≤ room) × (n ≡ length presentation.relations)
      × (book' ≡ book) × (cuts ≡ cut_sheet (relation_words presentation.relations))
  unfolding settled
  settled_parts presentation l =
      let other = leads_or_refuses (Narrow 0) n book' cuts in
      let (b, d) = passed (ltb room (4 * (2 * length presentation.relations))) _ _ _ other (rw l at e) in
      let (counted, books, sheets) = effect_parts _ n _ _ book' cuts d in
      (ltb-false room (4 * (2 * length presentation.relations)) b, counted, books, sheets)

-- an accepted change of what is held: the presentation that it makes is within the limits and loads, and its bytes and its sheet are written
pub record Accepted (change : Change) (held lent : List ℕ) (presentation : Presentation) (n : ℕ) (held' sheet : List ℕ) : Type 0 where
  pub after : Presentation
  pub made : changed change (length (book_in held)) presentation ≡ read after
  pub within : Within after
  pub loads : load_book (book_bytes after) ≡ read after
  pub room : sheet_columns * (2 * length after.relations) ≤ length lent
  pub counted : n ≡ length after.relations
  pub holds : held' ≡ holding (changes_after held) (book_bytes after) held
  pub sheets : sheet ≡ over (cut_sheet (relation_words after.relations)) lent

-- what loads is what was written
loads_back : (after q : Presentation) → Within after → load_book (book_bytes after) ≡ read q → load_book (book_bytes after) ≡ read after
loads_back after q w l = l ∙ sym (loaded_read (book_bytes after) q l).0 ∙ read_bytes after w

-- a change that leads to a book makes a presentation, whose bytes are settled
pub made_first : (change : Change) (held : List ℕ) (room n : ℕ) (book cuts : List ℕ) → effect_of change held room ≡ leads n book cuts
    → (after : Presentation) × (changed_in change held ≡ read after) × (settled room (book_bytes after) ≡ leads n book cuts)
unfolding effect_of
made_first change held room n book cuts e = passed_loaded (changed_in change held) refuses _ (leads n book cuts) (λ r. leads_or_refuses r n book cuts) e

pub accepted_change : (change : Change) (held lent : List ℕ) (presentation : Presentation) (n : ℕ) (held' sheet : List ℕ) → Taken held presentation
    → change_of change held lent ≡ ChangeOutcome.after (accepted n) held' sheet → Accepted change held lent presentation n held' sheet
accepted_change change held lent presentation n held' sheet t e =
    let c = change_accepted change held lent n held' sheet e in
    let (after, m, f) = made_first change held (length lent) n c.book c.cuts c.is in
    let made = sym (changed_in_lem change held presentation t) ∙ m in
    let within = changed_within change (length (book_in held)) presentation after (read_within (book_in held) presentation t.is) made in
    let (q, l) = settled_loads (length lent) (book_bytes after) n c.book c.cuts f in
    let loads = loads_back after q within l in
    let (room, counted, books, sheets) = settled_parts (length lent) (book_bytes after) n c.book c.cuts f after loads in
    record {
      after = after;
      made = made;
      within = within;
      loads = loads;
      room = room;
      counted = counted;
      holds = c.holds ∙ ap (λ (book : List ℕ). holding (changes_after held) book held) books;
      sheets = c.sheets ∙ ap (λ (cuts : List ℕ). over cuts lent) sheets;
    }

-- a change that is accepted was made of what is held
pub accepted_taken : (change : Change) (held lent : List ℕ) (n : ℕ) (held' sheet : List ℕ) → change_of change held lent ≡ ChangeOutcome.after (accepted n) held' sheet
    → (presentation : Presentation) × Taken held presentation
accepted_taken change held lent n held' sheet e =
    let c = change_accepted change held lent n held' sheet e in
    let (after, m, f) = made_first change held (length lent) n c.book c.cuts c.is in
    let (presentation, t, g) = taken_of change held after m in
    (presentation, t)
