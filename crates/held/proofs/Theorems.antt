-- The demands on held books.
use Prim.Native.Nat.{ℕ, ◌*◌, ◌-◌, ◌≤◌, ◌<◌}
use mathlib.Core.Bool.{Bool, true, false, cond}
use mathlib.Core.List.{List, [], ◌∷◌}
use mathlib.Core.Path.{◌≡◌, refl, sym, ap, ◌∙◌, subst}
use native.Mathlib.Omega.{arith}
use borrow.Author.Tests.{lt-ltb, le-ltb, le-leb, lt-leb}
use lib.Dec.{ltb}
use lib.ListN.{length, length-append}
use Rattle.words.specs.Relations.{relation_words}
use Rattle.words.proofs.Relations.{withdrawn_sides, added_sides}
use Rattle.overlap.specs.Verdict.{Verdict, judge}
use Rattle.overlap.proofs.Fewer.{fewer_accepted}
use Rattle.words.specs.Writing.{over}
use Rattle.limits.specs.Limits.{sheet_columns, held_room, held_buffer}
use Rattle.refusals.specs.declared.Refusal.TheVariants.{Narrow, NoSuchRelation, BookWorn}
use Rattle.format.specs.Book.{Presentation, adding, without, BookReading, read, relation_in}
use Rattle.format.specs.Bytes.{book_bytes}
use Rattle.format.proofs.Lengths.{bytes_few}
use Rattle.format.proofs.Bytes.{read_bytes}
use Rattle.format.proofs.Unique.{bytes_unique, without_within, without_length}
use Rattle.format.proofs.Additions.{without_last}
use Rattle.loading.specs.Loading.{load_book}
use Rattle.loading.specs.Sheet.{cut_sheet}
use Rattle.answers.specs.Answers.{accepted, refused, refusal}
use Rattle.answers.specs.Entries.{SheetOutcome, sheet_of}
use Rattle.held.specs.Held.{book_in, changes_after, worn, holding}
use Rattle.held.specs.Changes.{LoadOutcome, load_of, Change, addition, withdrawal, changed, changed_in, refuses, settled, effect_of, lastly, ChangeOutcome, made, change_of}
use Rattle.held.specs.Tickets.{change_in}
use Rattle.held.specs.Demands.{Holds, HeldFits, LoadedHolds, LoadingsHold, LoadingsKeep, RefusedKeeps, WithdrawalsHold, AdditionsNeedC4, Changes, ChangesTo, Fresh, ChangesFresh, AdditionsUndone}
use Rattle.held.proofs.Buffers.{book_held, changes_held, holding_long, book_bytes_lem}
use Rattle.held.proofs.Effects.{made_refused, change_fresh, change_worn, change_refused, posted_direct}
use Rattle.held.proofs.Steps.{loaded_read, loaded_within, read_loads, Taken, changed_in_lem, added, leads_to, settles, Accepted, accepted_change, accepted_taken}

pub held_fits : HeldFits
held_fits changes presentation w = omega (arith, bytes_few presentation w)

pub loaded_holds : LoadedHolds
loaded_holds held presentation are room e =
    record { room = room; loads = e; written = bytes_unique (book_in held) presentation (book_bytes_lem held are) (loaded_read (book_in held) presentation e).0 }

-- what is put into a buffer with the room is held, where it is the bytes of a presentation and loads as it
holds_put : (changes : ℕ) (book held : List ℕ) (presentation : Presentation) → held_room ≤ length held → load_book book ≡ read presentation
    → book ≡ book_bytes presentation → Holds (holding changes book held) presentation
holds_put changes book held presentation room loads written =
    let few = bytes_few presentation (loaded_within book presentation loads) in
    let short = ap length written in
    let same = book_held changes book held in
    let long = holding_long changes book held (omega arith) room in
    record { room = omega arith; loads = ap load_book same ∙ loads; written = same ∙ written }

pub loadings_hold : LoadingsHold
unfolding load_of
loadings_hold book held presentation are e room =
    let written = bytes_unique book presentation are (loaded_read book presentation e).0 in
    record {
      after = holding 0 book held;
      is = rw (e, le-ltb (length held) 4297 room);
      holds = holds_put 0 book held presentation room e written;
      same = book_held 0 book held;
      unchanged = changes_held 0 book held;
    }

-- a book that is held has another answer
pub loadings_keep : LoadingsKeep
unfolding load_of
loadings_keep book held n place held' e = go (load_book book) refl
  where
    go : (o : BookReading) → load_book book ≡ o → held' ≡ held
    go (BookReading.refused r) f = let d : LoadOutcome.after (refusal r) held ≡ LoadOutcome.after (refused n place) held' = rw f at e in cc
    go (BookReading.read p) f = room (ltb (length held) held_room) (rw f at e)
      where
        room : (b : Bool)
            → cond b (LoadOutcome.after (refusal (Narrow held_buffer)) held) (LoadOutcome.after (accepted (length p.relations)) (holding 0 book held)) ≡ LoadOutcome.after (refused n place) held'
            → held' ≡ held
        room true d = cc
        room false d = let z : ◌≡◌ {A = ℕ} 0 1 = cc in absurd (omega arith)

pub refused_keeps : RefusedKeeps
unfolding change_of
refused_keeps change held sheet n place held' sheet' e =
    let (k, h, s) = made_refused held sheet (lastly (worn held) BookWorn (effect_of change held (length sheet))) n place held' sheet' e in
    (h, s)

-- what a buffer holds is taken up
taken : (held : List ℕ) (presentation : Presentation) → Holds held presentation → Taken held presentation
taken held presentation h = record { room = h.room; is = (loaded_read (book_in held) presentation h.loads).0 }

-- the presentation without a relation loads, as the one with it does
without_loads : (held : List ℕ) (presentation : Presentation) (i : ℕ) → Holds held presentation
    → load_book (book_bytes (without presentation i)) ≡ read (without presentation i)
without_loads held presentation i h =
    let (r, v) = loaded_read (book_in held) presentation h.loads in
    let sides = relation_words presentation.relations in
    let w = without_within presentation i (loaded_within (book_in held) presentation h.loads) in
    read_loads (book_bytes (without presentation i)) (without presentation i) (read_bytes (without presentation i) w)
    (fewer_accepted sides (relation_words (without presentation i).relations) (withdrawn_sides presentation.relations i) v)

-- a withdrawal of one that is there
withdrawn : (held : List ℕ) (presentation : Presentation) (i : ℕ) → Holds held presentation → i < length presentation.relations
    → changed_in (withdrawal i) held ≡ read (without presentation i)
withdrawn held presentation i h l = changed_in_lem (withdrawal i) held presentation (taken held presentation h) ∙ rw (lt-leb (length presentation.relations) i l)

-- what a withdrawal comes to: 15 where there is no such relation
withdrawal_absent : (held : List ℕ) (room : ℕ) (presentation : Presentation) (i : ℕ) → Holds held presentation → length presentation.relations ≤ i
    → effect_of (withdrawal i) held room ≡ refuses NoSuchRelation
unfolding effect_of
withdrawal_absent held room presentation i h l =
    rw (changed_in_lem (withdrawal i) held presentation (taken held presentation h), le-leb (length presentation.relations) i l)

module _ (held : List ℕ) (room : ℕ) (presentation : Presentation) (i : ℕ) (h : Holds held presentation) (l : i < length presentation.relations) where
  -- 12 where the sheet of the relations that are left has no room
  withdrawal_narrow : room < sheet_columns * (2 * (length presentation.relations - 1)) → effect_of (withdrawal i) held room ≡ refuses (Narrow 0)
  unfolding effect_of settled
  withdrawal_narrow s =
      let n = without_length presentation i l in
      rw (withdrawn held presentation i h l, without_loads held presentation i h, n, lt-ltb room (4 * (2 * (length presentation.relations - 1))) s)

  -- else it leads to them
  withdrawal_leads : sheet_columns * (2 * (length presentation.relations - 1)) ≤ room
      → effect_of (withdrawal i) held room ≡ leads_to (book_bytes (without presentation i)) (without presentation i) (length presentation.relations - 1)
  unfolding effect_of
  withdrawal_leads s =
      let n = without_length presentation i l in
      let left = without presentation i in
      let w = settles room (book_bytes left) left (without_loads held presentation i h) (omega arith) in
      rw (withdrawn held presentation i h l) (w ∙ ap (leads_to (book_bytes left) left) n)

pub withdrawals_hold : WithdrawalsHold
withdrawals_hold held sheet presentation i h =
    let room = length sheet in
    record {
      absent = λ l. change_refused (withdrawal i) held sheet NoSuchRelation (withdrawal_absent held room presentation i h l);
      narrow = λ l s. change_refused (withdrawal i) held sheet (Narrow 0) (withdrawal_narrow held room presentation i h l s);
      worn = λ l s w. change_worn (withdrawal i) held sheet _ _ _ w (withdrawal_leads held room presentation i h l s);
      roomy = λ l s w. change_fresh (withdrawal i) held sheet w ∙ ap (made held sheet) (withdrawal_leads held room presentation i h l s);
    }

pub additions_need_c4 : AdditionsNeedC4
additions_need_c4 bytes held sheet n held' sheet' are e =
    let (presentation, t) = accepted_taken (addition bytes) held sheet n held' sheet' e in
    let a = accepted_change (addition bytes) held sheet presentation n held' sheet' t e in
    let (left, right, to, f, g) = added bytes (length (book_in held)) presentation a.after a.made in
    let r = relation_in bytes left right to in
    let v = (loaded_read (book_bytes a.after) a.after a.loads).1 in
    let w = subst (λ (p : Presentation). judge (relation_words p.relations) ≡ Verdict.accepted) g v in
    let rs = presentation.relations in
    let fewer = fewer_accepted (relation_words (adding presentation r).relations) (relation_words rs) (added_sides rs r) w in
    let written = bytes_unique (book_in held) presentation (book_bytes_lem held are) t.is in
    (presentation, record { room = t.room; loads = read_loads (book_in held) presentation t.is fewer; written = written })

-- the sheet of a book that loads
sheet_of_lem : (book lent : List ℕ) (presentation : Presentation) → load_book book ≡ read presentation
    → sheet_columns * (2 * length presentation.relations) ≤ length lent
    → sheet_of book lent ≡ SheetOutcome.after (accepted (length presentation.relations)) (over (cut_sheet (relation_words presentation.relations)) lent)
unfolding sheet_of
sheet_of_lem book lent presentation e h = rw (e, le-ltb (length lent) (4 * (2 * length presentation.relations)) h)

module _ (change : Change) (held lent : List ℕ) (presentation : Presentation) (n : ℕ) (held' sheet : List ℕ) (h : Holds held presentation) where
  -- an accepted change of what is held
  change_of_lem : change_of change held lent ≡ ChangeOutcome.after (accepted n) held' sheet → Accepted change held lent presentation n held' sheet
  change_of_lem = accepted_change change held lent presentation n held' sheet (taken held presentation h)

  module _ (a : Accepted change held lent presentation n held' sheet) where
    -- the bytes of what it makes are held
    book_after : book_in held' ≡ book_bytes a.after
    book_after = ap book_in a.holds ∙ book_held (changes_after held) (book_bytes a.after) held

    holds_after : Holds held' a.after
    holds_after =
        let p = holds_put (changes_after held) (book_bytes a.after) held a.after h.room a.loads refl in
        subst (λ (x : List ℕ). Holds x a.after) (sym a.holds) p

    -- its sheet is the one of the bytes that are held then
    sheet_after : sheet_of (book_in held') lent ≡ SheetOutcome.after (accepted n) sheet
    sheet_after =
        let s = sheet_of_lem (book_bytes a.after) lent a.after a.loads a.room in
        ap (λ (book : List ℕ). sheet_of book lent) book_after ∙ rw (a.counted, a.sheets) s

    -- it is made of the presentation
    made_of : changed change (length (book_bytes presentation)) presentation ≡ read a.after
    made_of = subst (λ (book : List ℕ). changed change (length book) presentation ≡ read a.after) h.written a.made

-- one more change of what is held
sheets_fresh : (held : List ℕ) (presentation : Presentation) → Holds held presentation → (change : Change) (lent : List ℕ) (n : ℕ) (held' sheet : List ℕ)
    → change_of change held lent ≡ ChangeOutcome.after (accepted n) held' sheet → sheet_of (book_in held') lent ≡ SheetOutcome.after (accepted n) sheet
sheets_fresh held presentation h change lent n held' sheet e =
    sheet_after change held lent presentation n held' sheet h (change_of_lem change held lent presentation n held' sheet h e)

-- one more change after others that made what is held
fresh_more : (first presentation : Presentation) (changes : List Change) (change : Change) (held lent : List ℕ) (n : ℕ) (held' sheet : List ℕ)
    → ChangesTo first changes presentation → Holds held presentation → change_of change held lent ≡ ChangeOutcome.after (accepted n) held' sheet
    → Fresh first (change ∷ changes) held'
fresh_more first presentation changes change held lent n held' sheet made h e =
    let a = change_of_lem change held lent presentation n held' sheet h e in
    let k = holds_after change held lent presentation n held' sheet h a in
    record {
      after = a.after;
      made = ChangesTo.more change made (made_of change held lent presentation n held' sheet h a);
      holds = k;
      sheets = sheets_fresh held' a.after k;
    }

-- the changes one by one; one that was posted is the same change made directly
fresh : {held held' : List ℕ} {changes : List Change} (presentation : Presentation) → Holds held presentation → Changes held changes held'
    → Fresh presentation changes held'
fresh {held} presentation h Changes.none = record { after = presentation; made = ChangesTo.none; holds = h; sheets = sheets_fresh held presentation h }
fresh presentation h (Changes.more {held' = before} {held'' = last} {changes = changes} change lent sheet n c e) =
    let f = fresh presentation h c in
    fresh_more presentation f.after changes change before lent n last sheet f.made f.holds e
fresh presentation h (Changes.posted {held' = before} {held'' = last} {changes = changes} ticket lent sheet n c e) =
    let f = fresh presentation h c in
    let d = posted_direct ticket before lent n last sheet e in
    fresh_more presentation f.after changes (change_in ticket) before lent n last sheet f.made f.holds d

pub changes_fresh : ChangesFresh
changes_fresh held held' presentation changes h c = fresh presentation h c

-- what was added last is withdrawn
pub additions_undone : AdditionsUndone
additions_undone bytes held sheet n held' sheet' lent presentation h e below room =
    let a = change_of_lem (addition bytes) held sheet presentation n held' sheet' h e in
    let k = holds_after (addition bytes) held sheet presentation n held' sheet' h a in
    let (start, middle, to, f, g) = added bytes (length (book_in held)) presentation a.after a.made in
    let r = relation_in bytes start middle to in
    let i = length presentation.relations in
    let j = subst (λ (p : Presentation). Holds held' p) g k in
    let l = length-append presentation.relations (r ∷ []) in
    let m : length (adding presentation r).relations - 1 ≡ i = omega arith in
    let left = without (adding presentation r) i in
    let w = withdrawal_leads held' (length lent) (adding presentation r) i j (omega arith) (omega arith) ∙ ap (leads_to (book_bytes left) left) m in
    let v = w ∙ ap (λ (p : Presentation). leads_to (book_bytes p) p i) (without_last presentation r) in
    record {
      after = holding (changes_after held') (book_bytes presentation) held';
      sheet = over (cut_sheet (relation_words presentation.relations)) lent;
      is = change_fresh (withdrawal i) held' lent below ∙ ap (made held' lent) v;
      same = book_held (changes_after held') (book_bytes presentation) held' ∙ sym h.written;
      fresh = sheet_of_lem (book_in held) lent presentation h.loads room;
    }
