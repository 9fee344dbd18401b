-- An addition comes to what the book with its bytes at the end comes to: where its record is read, those are the bytes of the new book; where it is refused, they are
-- refused with it.
use Prim.Native.Nat.{ℕ, ◌*◌, ◌<◌, ◌≤◌}
use mathlib.Core.Bool.{Bool, true, false, cond}
use mathlib.Core.List.{List, [], ◌++◌}
use mathlib.Core.Logic.{◌⊎◌, inl, inr}
use mathlib.Core.Path.{◌≡◌, refl, sym, ap, ◌∙◌, subst, subst₂}
use native.Mathlib.Omega.{arith}
use borrow.Author.Tests.{le-leb, ne_eqb}
use lib.Dec.{ltb}
use lib.ListN.{length}
use Rattle.std.specs.Prelude.{Some, Result, Ok, Err}
use Rattle.words.specs.Relations.{relation_words}
use Rattle.overlap.specs.Verdict.{Verdict, judge}
use Rattle.words.specs.Writing.{over}
use Rattle.limits.specs.Limits.{relation_kind, relations_most, changes_most}
use Rattle.refusals.specs.declared.Refusal.{Refusal}
use Rattle.refusals.specs.declared.Refusal.TheVariants.{Short, Kind, Length, TooMany, Narrow, BookWorn}
use Rattle.refusals.specs.Refusals.{number_and_place}
use Rattle.format.specs.declared.RelationFields.{RelationFields}
use Rattle.format.specs.Book.{Presentation, adding, BookReading, read, record_at, addition_at, relation_in, read_book}
use Rattle.format.specs.Bytes.{book_bytes, AreBytes}
use Rattle.format.proofs.Readings.{read_within}
use Rattle.format.proofs.Bytes.{read_bytes}
use Rattle.format.proofs.Unique.{adding_bytes}
use Rattle.format.proofs.Additions.{addition_bytes, additions_read}
use Rattle.format.proofs.Refused.{RecordRefusal, RelationUpto, addition_upto}
use Rattle.loading.specs.Loading.{load_book}
use Rattle.loading.specs.Sheet.{cut_sheet}
use Rattle.answers.specs.Answers.{Answer, accepted, refused, refusal}
use Rattle.answers.specs.Entries.{SheetOutcome, sheet_of}
use Rattle.held.specs.Held.{book_in, changes_told, changes_after, worn, holding}
use Rattle.held.specs.Changes.{addition, Effect, refuses, leads, settled, effect_of, lastly, ChangeOutcome, made, change_of}
use Rattle.held.specs.Demands.{Holds}
use Rattle.held.specs.Additions.{OneRecord, AddsAtTheEnd, OfAddition, AdditionsAtTheEnd}
use Rattle.held.proofs.Effects.{KeptOf, made_refused, change_fresh, change_worn, change_refused}
use Rattle.held.proofs.Steps.{loaded_read, Taken, changed_in_lem, changed_within}

-- what is held is taken up
taken : (held : List ℕ) (presentation : Presentation) → Holds held presentation → Taken held presentation
taken held presentation h = record { room = h.room; is = (loaded_read (book_in held) presentation h.loads).0 }

-- what a book comes to, as the outcome of its sheet
abbrev as_sheet : List ℕ → Effect → SheetOutcome
as_sheet sheet (refuses r) = SheetOutcome.after (refusal r) sheet
as_sheet sheet (leads n book cuts) = SheetOutcome.after (accepted n) (over cuts sheet)

sheet_settled : (book sheet : List ℕ) → sheet_of book sheet ≡ as_sheet sheet (settled (length sheet) book)
unfolding sheet_of settled
sheet_settled book sheet = go (load_book book) refl
  where
    go : (o : BookReading) → load_book book ≡ o → sheet_of book sheet ≡ as_sheet sheet (settled (length sheet) book)
    go (BookReading.refused r) e = rw e
    go (BookReading.read p) e = step (ltb (length sheet) (4 * (2 * length p.relations))) refl
      where
        step : (b : Bool) → ltb (length sheet) (4 * (2 * length p.relations)) ≡ b → sheet_of book sheet ≡ as_sheet sheet (settled (length sheet) book)
        step true f = rw (e, f)
        step false f = rw (e, f)

-- where a book leads, it is the book that is led to
leads_itself : (room : ℕ) (book : List ℕ) (n : ℕ) (book' cuts : List ℕ) → settled room book ≡ leads n book' cuts → book' ≡ book
unfolding settled
leads_itself room book n book' cuts e = go (load_book book) refl
  where
    go : (o : BookReading) → load_book book ≡ o → book' ≡ book
    go (BookReading.refused r) f = let d : refuses r ≡ leads n book' cuts = rw f at e in let z : ◌≡◌ {A = ℕ} 0 1 = cc in absurd (omega arith)
    go (BookReading.read p) f = step (ltb room (4 * (2 * length p.relations))) (rw f at e)
      where
        step : (b : Bool) → cond b (refuses (Narrow 0)) (leads (length p.relations) book (cut_sheet (relation_words p.relations))) ≡ leads n book' cuts → book' ≡ book
        step true d = let z : ◌≡◌ {A = ℕ} 0 1 = cc in absurd (omega arith)
        step false d = cc

-- a book that is refused as it is read
settled_refused : (room : ℕ) (book : List ℕ) (r : Refusal) → read_book book ≡ BookReading.refused r → settled room book ≡ refuses r
unfolding settled load_book
settled_refused room book r e = rw e

module _ (held : List ℕ) (presentation : Presentation) (h : Holds held presentation) (bytes : List ℕ) where
  -- what reading the record gives
  abbrev reading : Result RelationFields Refusal
  reading = addition_at presentation.letters (length presentation.relations) (length (book_in held)) bytes

  changed_refused : (r : Refusal) → reading ≡ Err r → (room : ℕ) → effect_of (addition bytes) held room ≡ refuses r
  unfolding effect_of
  changed_refused r e room = rw (changed_in_lem (addition bytes) held presentation (taken held presentation h), e)

  changed_read : (left right to : ℕ) → reading ≡ Ok (record { left = left; right = right; end = to }) → (room : ℕ)
      → effect_of (addition bytes) held room ≡ settled room (book_bytes (adding presentation (relation_in bytes left right to)))
  unfolding effect_of
  changed_read left right to e room = rw (changed_in_lem (addition bytes) held presentation (taken held presentation h), e)

  -- a refusal of the record is that of the addition
  record_refused : (sheet : List ℕ) (r : Refusal) → reading ≡ Err r → change_of (addition bytes) held sheet ≡ ChangeOutcome.after (refusal r) held sheet
  record_refused sheet r e = change_refused (addition bytes) held sheet r (changed_refused r e (length sheet))

  -- one record comes to what the book with it at the end comes to
  effect_joined : AreBytes bytes → OneRecord bytes → (room : ℕ) → effect_of (addition bytes) held room ≡ settled room (book_in held ++ bytes)
  effect_joined are o room = go reading refl
    where
      go : (x : Result RelationFields Refusal) → reading ≡ x → effect_of (addition bytes) held room ≡ settled room (book_in held ++ bytes)
      go (Err r) e =
          let q = additions_read.refuses (book_in held) bytes presentation r (taken held presentation h).is e o.some o.alone in
          changed_refused r e room ∙ sym (settled_refused room (book_in held ++ bytes) r q)
      go (Ok fields) e =
          let t = relation_in bytes fields.left fields.right fields.end in
          let b = addition_bytes presentation.letters (length presentation.relations) (length (book_in held)) bytes fields.left fields.right fields.end are e in
          let w : book_bytes (adding presentation t) ≡ book_in held ++ bytes = cc (adding_bytes presentation t, h.written, b) in
          changed_read fields.left fields.right fields.end e room ∙ ap (settled room) w

-- outcomes of sheets of which one is an acceptance and one a refusal
sheet_both : (n m place : ℕ) (sheet sheet' : List ℕ) → SheetOutcome.after (accepted n) sheet ≡ SheetOutcome.after (refused m place) sheet' → ⊥
sheet_both n m place sheet sheet' e = let z : ◌≡◌ {A = ℕ} 0 1 = cc in omega arith

module _ (held : List ℕ) (presentation : Presentation) (h : Holds held presentation) (bytes : List ℕ) (are : AreBytes bytes) (o : OneRecord bytes) (sheet : List ℕ) where
  -- what it comes to, and the sheet of the book with it at the end
  abbrev effect : Effect
  effect = effect_of (addition bytes) held (length sheet)

  sheet_joined : sheet_of (book_in held ++ bytes) sheet ≡ as_sheet sheet effect
  sheet_joined = sheet_settled (book_in held ++ bytes) sheet ∙ ap (as_sheet sheet) (sym (effect_joined held presentation h bytes are o (length sheet)))

  refuses_there : (n place : ℕ) (sheet' : List ℕ) → sheet_of (book_in held ++ bytes) sheet ≡ SheetOutcome.after (refused n place) sheet'
      → change_of (addition bytes) held sheet ≡ ChangeOutcome.after (refused n place) held sheet
  refuses_there n place sheet' e = go effect refl
    where
      go : (x : Effect) → effect ≡ x → change_of (addition bytes) held sheet ≡ ChangeOutcome.after (refused n place) held sheet
      go (refuses r) f =
          let d : SheetOutcome.after (refusal r) sheet ≡ SheetOutcome.after (refused n place) sheet' = sym (sheet_joined ∙ ap (as_sheet sheet) f) ∙ e in
          let a : refusal r ≡ refused n place = cc in
          change_refused (addition bytes) held sheet r f ∙ ap (λ (x : Answer). ChangeOutcome.after x held sheet) a
      go (leads m book cuts) f = absurd (sheet_both m n place (over cuts sheet) sheet' (sym (sheet_joined ∙ ap (as_sheet sheet) f) ∙ e))

  -- where the book with it at the end has its sheet, it leads there
  leads_there : (n : ℕ) (sheet' : List ℕ) → sheet_of (book_in held ++ bytes) sheet ≡ SheetOutcome.after (accepted n) sheet'
      → (cuts : List ℕ) × (effect ≡ leads n (book_in held ++ bytes) cuts) × (sheet' ≡ over cuts sheet)
  leads_there n sheet' e = go effect refl
    where
      go : (x : Effect) → effect ≡ x → (cuts : List ℕ) × (effect ≡ leads n (book_in held ++ bytes) cuts) × (sheet' ≡ over cuts sheet)
      go (refuses r) f = absurd (sheet_both n _ _ sheet' sheet (sym e ∙ sheet_joined ∙ ap (as_sheet sheet) f))
      go (leads m book cuts) f =
          let d : SheetOutcome.after (accepted m) (over cuts sheet) ≡ SheetOutcome.after (accepted n) sheet' = sym (sheet_joined ∙ ap (as_sheet sheet) f) ∙ e in
          let x : m ≡ n = cc in
          let y : sheet' ≡ over cuts sheet = cc in
          let b = leads_itself (length sheet) (book_in held ++ bytes) m book cuts (sym (effect_joined held presentation h bytes are o (length sheet)) ∙ f) in
          (cuts, cc (f, x, b), y)

  accepts_there : (n : ℕ) (sheet' : List ℕ) → sheet_of (book_in held ++ bytes) sheet ≡ SheetOutcome.after (accepted n) sheet' → changes_told held < changes_most
      → change_of (addition bytes) held sheet ≡ ChangeOutcome.after (accepted n) (holding (changes_after held) (book_in held ++ bytes) held) sheet'
  accepts_there n sheet' e below =
      let (cuts, f, y) = leads_there n sheet' e in
      change_fresh (addition bytes) held sheet below ∙ ap (made held sheet) f
      ∙ ap (ChangeOutcome.after (accepted n) (holding (changes_after held) (book_in held ++ bytes) held)) (sym y)

  worn_there : (n : ℕ) (sheet' : List ℕ) → sheet_of (book_in held ++ bytes) sheet ≡ SheetOutcome.after (accepted n) sheet' → changes_most ≤ changes_told held
      → change_of (addition bytes) held sheet ≡ ChangeOutcome.after (refused 17 0) held sheet
  worn_there n sheet' e above =
      let (cuts, f, y) = leads_there n sheet' e in
      change_worn (addition bytes) held sheet n (book_in held ++ bytes) cuts above f

  only_two : ((n : ℕ) × (place : ℕ) × (sheet_of (book_in held ++ bytes) sheet ≡ SheetOutcome.after (refused n place) sheet))
      ⊎ ((n : ℕ) × (sheet' : List ℕ) × (sheet_of (book_in held ++ bytes) sheet ≡ SheetOutcome.after (accepted n) sheet'))
  only_two = go effect refl
    where
      go : (x : Effect) → effect ≡ x → ((n : ℕ) × (place : ℕ) × (sheet_of (book_in held ++ bytes) sheet ≡ SheetOutcome.after (refused n place) sheet))
          ⊎ ((n : ℕ) × (sheet' : List ℕ) × (sheet_of (book_in held ++ bytes) sheet ≡ SheetOutcome.after (accepted n) sheet'))
      go (refuses r) f = inl ((number_and_place r).number, (number_and_place r).place, sheet_joined ∙ ap (as_sheet sheet) f)
      go (leads n book cuts) f = inr (n, over cuts sheet, sheet_joined ∙ ap (as_sheet sheet) f)

  adds_at_the_end : AddsAtTheEnd bytes held sheet
  adds_at_the_end = record { refuses = refuses_there; accepts = accepts_there; worn = worn_there; only = only_two }

-- the numbers of the refusals of what an addition comes to
abbrev Own : ℕ → Refusal → Type 0
Own start r = OfAddition start (number_and_place r).number (number_and_place r).place

abbrev OwnEffect : ℕ → Effect → Type 0
OwnEffect start (refuses r) = Own start r
OwnEffect start (leads n book cuts) = Unit {0}

record_own : (start : ℕ) (r : Refusal) → RecordRefusal start r → Own start r
record_own start r RecordRefusal.short_there = OfAddition.of_record 1 (omega arith) (omega arith)
record_own start r RecordRefusal.kind_there = OfAddition.of_record 2 (omega arith) (omega arith)
record_own start r RecordRefusal.length_there = OfAddition.of_record 3 (omega arith) (omega arith)
record_own start r RecordRefusal.range_there = OfAddition.of_record 4 (omega arith) (omega arith)
record_own start r RecordRefusal.unknown_there = OfAddition.of_record 5 (omega arith) (omega arith)
record_own start r RecordRefusal.many_there = OfAddition.of_record 6 (omega arith) (omega arith)

-- a book that is read is refused by 8, and its sheet by 12
settled_own : (start room : ℕ) (book : List ℕ) (p : Presentation) → read_book book ≡ read p → OwnEffect start (settled room book)
unfolding settled load_book
settled_own start room book p e = go (judge (relation_words p.relations)) (ltb room (4 * (2 * length p.relations))) refl refl
  where
    go : (v : Verdict) (b : Bool) → judge (relation_words p.relations) ≡ v → ltb room (4 * (2 * length p.relations)) ≡ b → OwnEffect start (settled room book)
    go (Verdict.loose side) b f g = rw (e, f) (OfAddition.loose side)
    go Verdict.accepted true f g = rw (e, f, g) OfAddition.narrow
    go Verdict.accepted false f g = rw (e, f, g) tt

-- an effect with 17 behind its other refusals
worn_own : (start : ℕ) (due : Bool) (x : Effect) → OwnEffect start x → OwnEffect start (lastly due BookWorn x)
worn_own start due (refuses r) s = s
worn_own start true (leads n book cuts) s = OfAddition.worn
worn_own start false (leads n book cuts) s = tt

-- the number and the place of one that was refused
kept_own : (start : ℕ) (x : Effect) (n place : ℕ) → OwnEffect start x → KeptOf x n place → OfAddition start n place
kept_own start x n place s k =
    let t : Own start k.why = subst (OwnEffect start) k.is s in
    subst₂ (OfAddition start) (sym k.number) (sym k.at) t

module _ (held : List ℕ) (presentation : Presentation) (h : Holds held presentation) where
  effect_own : (bytes : List ℕ) (room : ℕ) → OwnEffect (length (book_in held)) (effect_of (addition bytes) held room)
  effect_own bytes room = go (reading held presentation h bytes) refl (addition_upto presentation.letters (length presentation.relations) (length (book_in held)) bytes)
    where
      go : (x : Result RelationFields Refusal) → reading held presentation h bytes ≡ x → RelationUpto (length bytes) (length (book_in held)) x
          → OwnEffect (length (book_in held)) (effect_of (addition bytes) held room)
      go (Err r) e (RelationUpto.refused_at k) =
          subst (OwnEffect (length (book_in held))) (sym (changed_refused held presentation h bytes r e room)) (record_own (length (book_in held)) r k)
      go (Ok fields) e k =
          let p = adding presentation (relation_in bytes fields.left fields.right fields.end) in
          let t = taken held presentation h in
          let w = changed_within (addition bytes) (length (book_in held)) presentation p (read_within (book_in held) presentation t.is) (rw e) in
          subst (OwnEffect (length (book_in held))) (sym (changed_read held presentation h bytes fields.left fields.right fields.end e room))
          (settled_own (length (book_in held)) room (book_bytes p) p (read_bytes p w))

  numbers_own : (bytes sheet : List ℕ) (n place : ℕ) (held' sheet' : List ℕ) → change_of (addition bytes) held sheet ≡ ChangeOutcome.after (refused n place) held' sheet'
      → OfAddition (length (book_in held)) n place
  unfolding change_of
  numbers_own bytes sheet n place held' sheet' e =
      let x = effect_of (addition bytes) held (length sheet) in
      let (k, a, b) = made_refused held sheet (lastly (worn held) BookWorn x) n place held' sheet' e in
      kept_own (length (book_in held)) (lastly (worn held) BookWorn x) n place (worn_own (length (book_in held)) (worn held) x (effect_own bytes (length sheet))) k

  -- the answers to bytes that are more or less than one record
  none_adds : (sheet : List ℕ) → change_of (addition []) held sheet ≡ ChangeOutcome.after (refused 1 (length (book_in held))) held sheet
  none_adds sheet = record_refused held presentation h [] sheet (Short (length (book_in held))) (additions_read.none _ _ _)

  kind_adds : (bytes sheet : List ℕ) (kind from to : ℕ) → record_at bytes 0 ≡ Some (record { kind = kind; from = from; to = to }) → ¬ (kind ≡ relation_kind)
      → change_of (addition bytes) held sheet ≡ ChangeOutcome.after (refused 2 (length (book_in held))) held sheet
  unfolding addition_at
  kind_adds bytes sheet kind from to e d = record_refused held presentation h bytes sheet (Kind (length (book_in held))) (rw (e, ne_eqb kind 2 d))

  many_adds : (bytes sheet : List ℕ) (from to : ℕ) → record_at bytes 0 ≡ Some (record { kind = relation_kind; from = from; to = to }) → relations_most ≤ length presentation.relations
      → change_of (addition bytes) held sheet ≡ ChangeOutcome.after (refused 6 (length (book_in held))) held sheet
  unfolding addition_at
  many_adds bytes sheet from to e l =
      record_refused held presentation h bytes sheet (TooMany (length (book_in held))) (rw (e, le-leb 32 (length presentation.relations) l))

  behind_adds : (bytes sheet : List ℕ) (from to : ℕ) → record_at bytes 0 ≡ Some (record { kind = relation_kind; from = from; to = to }) → length presentation.relations < relations_most → to < length bytes
      → change_of (addition bytes) held sheet ≡ ChangeOutcome.after (refused 3 (length (book_in held))) held sheet
  behind_adds bytes sheet from to e l k = record_refused held presentation h bytes sheet (Length (length (book_in held))) (additions_read.behind _ _ _ bytes from to e l k)

pub additions_at_the_end : AdditionsAtTheEnd
additions_at_the_end held sheet presentation h =
    record {
      one = λ bytes are o. adds_at_the_end held presentation h bytes are o sheet;
      none = none_adds held presentation h sheet;
      kind = λ bytes. kind_adds held presentation h bytes sheet;
      many = λ bytes. many_adds held presentation h bytes sheet;
      behind = λ bytes. behind_adds held presentation h bytes sheet;
      numbers = λ bytes. numbers_own held presentation h bytes sheet;
    }
