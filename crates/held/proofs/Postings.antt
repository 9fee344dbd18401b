-- What is owed of proposals, of postings and of the count of changes (specs/Postings.antt) holds.
use Prim.Native.Nat.{ℕ, ◌+◌, ◌*◌, ◌<◌, ◌≤◌}
use mathlib.Core.Bool.{Bool, true, false, not}
use mathlib.Core.List.{List, ◌∷◌}
use mathlib.Core.Logic.{by_cases, ◌⊎◌, inl, inr}
use mathlib.Core.Path.{◌≡◌, refl, sym, ap, ◌∙◌, subst}
use native.Mathlib.Decide.{dec_le}
use native.Mathlib.Omega.{arith}
use borrow.Author.Tests.{le-ltb, lt-leb, eq-eqb, ne_eqb}
use lib.Dec.{ltb}
use lib.ListN.{length}
use Rattle.words.specs.Writing.{over}
use Rattle.limits.specs.Limits.{sheet_columns, changes_most, ticket_room}
use Rattle.refusals.specs.declared.Refusal.{Refusal}
use Rattle.refusals.specs.declared.Refusal.TheVariants.{Narrow, StaleTicket, BookWorn}
use Rattle.refusals.specs.Refusals.{number_and_place}
use Rattle.format.specs.Bytes.{book_bytes}
use Rattle.format.proofs.Readings.{passed}
use Rattle.loading.specs.Loading.{load_book}
use Rattle.answers.specs.Answers.{accepted, refused, refusal}
use Rattle.held.specs.Held.{changes_told, changes_after, worn, held_bytes, holding}
use Rattle.held.specs.Changes.{LoadOutcome, load_of, Change, Effect, refuses, leads, settled, effect_of, firstly, lastly, ChangeOutcome, made, change_of}
use Rattle.held.specs.Tickets.{ticket_bytes, count_in, change_in, stale, ProposalOutcome, propose_of, post_of}
use Rattle.held.specs.Demands.{Changes}
use Rattle.held.specs.Postings.{ProposalsKeep, PostingsKeep, OfChange, ProposalsOfChange, NeverStale, PostingsAreChanges, PostingsHold, OnTheSpot, PostedOnTheSpot, Counted, ChangesCounted, ChangesLimited}
use Rattle.held.proofs.Steps.{passed_loaded, made_first}
use Rattle.held.proofs.Effects.{leads_or_refuses, made_refused, shown_accepted, shown_refused, lastly_leads, Taking, change_accepted, change_fresh, change_refused, post_accepted, posted_direct}
use Rattle.held.proofs.Tickets.{ticket_back}
use Rattle.held.proofs.Numbers.{OwnEffect, effect_own}

pub proposals_keep : ProposalsKeep
unfolding propose_of
proposals_keep change held sheet ticket n place sheet' ticket' e =
    let effect = lastly (ltb (length ticket) 140) (Narrow 2) (effect_of change held (length sheet)) in
    let (k, a, b) = shown_refused change held sheet ticket effect n place sheet' ticket' e in
    (a, b)

pub postings_keep : PostingsKeep
unfolding post_of
postings_keep ticket held sheet n place held' sheet' e =
    let effect = firstly (stale ticket held) StaleTicket (firstly (worn held) BookWorn (effect_of (change_in ticket) held (length sheet))) in
    let (k, a, b) = made_refused held sheet effect n place held' sheet' e in
    (a, b)

-- a refusal, where another comes behind those of the change, is that one or one of the change itself
lastly_numbers : (due : Bool) (r : Refusal) (effect : Effect) (why : Refusal) → OwnEffect effect → lastly due r effect ≡ refuses why
    → (why ≡ r) ⊎ OfChange (number_and_place why).number
lastly_numbers due r (refuses s) why o e = let x : s ≡ why = cc in inr (subst (λ (t : Refusal). OfChange (number_and_place t).number) x o)
lastly_numbers true r (leads n book cuts) why o e = let x : why ≡ r = cc in inl x
lastly_numbers false r (leads n book cuts) why o e = absurd (leads_or_refuses why n book cuts (sym e))

pub proposals_of_change : ProposalsOfChange
unfolding propose_of
proposals_of_change change held sheet ticket n place sheet' ticket' e =
    let due = ltb (length ticket) 140 in
    let effect = effect_of change held (length sheet) in
    let (k, a, b) = shown_refused change held sheet ticket (lastly due (Narrow 2) effect) n place sheet' ticket' e in
    subst OfChange (sym k.number) (go k.why (lastly_numbers due (Narrow 2) effect k.why (effect_own change held (length sheet)) k.is))
  where
    go : (why : Refusal) → (why ≡ Narrow 2) ⊎ OfChange (number_and_place why).number → OfChange (number_and_place why).number
    go why (inl f) = subst (λ (t : Refusal). OfChange (number_and_place t).number) (sym f) OfChange.narrow
    go why (inr o) = o

-- 16 is no refusal of the change itself
own_below : {n : ℕ} → OfChange n → n < 16
own_below OfChange.short = omega arith
own_below OfChange.kind = omega arith
own_below OfChange.misfit = omega arith
own_below OfChange.range = omega arith
own_below OfChange.unknown = omega arith
own_below OfChange.thick = omega arith
own_below OfChange.loose = omega arith
own_below OfChange.narrow = omega arith
own_below OfChange.absent = omega arith

pub never_stale : NeverStale
unfolding change_of
never_stale change held sheet place held' sheet' e =
    let effect = effect_of change held (length sheet) in
    let (k, a, b) = made_refused held sheet (lastly (worn held) BookWorn effect) 16 place held' sheet' e in
    go k.why k.number (lastly_numbers (worn held) BookWorn effect k.why (effect_own change held (length sheet)) k.is)
  where
    go : (why : Refusal) → 16 ≡ (number_and_place why).number → (why ≡ BookWorn) ⊎ OfChange (number_and_place why).number → ⊥
    go why f (inl g) = let x : (number_and_place why).number ≡ 17 = ap (λ (t : Refusal). (number_and_place t).number) g in omega arith
    go why f (inr o) = omega (arith, own_below o)

pub postings_are_changes : PostingsAreChanges
postings_are_changes = posted_direct

-- the count that a buffer tells after a book is put into it
told_held : (changes : ℕ) (book held : List ℕ) → changes_told (holding changes book held) ≡ changes
unfolding changes_told holding
told_held changes book held = rw (le-ltb (length (over (held_bytes changes book) held)) 4 (omega arith)) (omega arith)

-- an accepted change is counted
change_counted : (change : Change) (held lent : List ℕ) (n : ℕ) (held' sheet : List ℕ) → Taking change held lent n held' sheet
    → (changes_told held' ≡ changes_told held + 1) × (changes_told held < changes_most)
change_counted change held lent n held' sheet t = (ap changes_told t.holds ∙ told_held (changes_after held) t.book held, t.below)

-- a change behind those that are counted
counted_more : {held held' held'' : List ℕ} {changes : List Change} (change : Change) → Counted held changes held'
    → (changes_told held'' ≡ changes_told held' + 1) × (changes_told held' < changes_most) → Counted held (change ∷ changes) held''
counted_more {held} {held'} {held''} {changes} change c (e, h) = record { sum = omega (arith, c.sum); most = λ l. omega arith }

-- so all changes are
counted : {held held' : List ℕ} {changes : List Change} → Changes held changes held' → Counted held changes held'
counted Changes.none = record { sum = omega arith; most = λ l. absurd (omega arith) }
counted (Changes.more {held' = before} {held'' = last} change lent sheet n c e) =
    let t = change_accepted change before lent n last sheet e in
    counted_more change (counted c) (change_counted change before lent n last sheet t)
counted (Changes.posted {held' = before} {held'' = last} ticket lent sheet n c e) =
    let t = (post_accepted ticket before lent n last sheet e).1 in
    counted_more (change_in ticket) (counted c) (change_counted (change_in ticket) before lent n last sheet t)

pub changes_counted : ChangesCounted
changes_counted held held' changes c = counted c

-- a book that is loaded has no change counted
load_told : (book lent : List ℕ) (n : ℕ) (held : List ℕ) → load_of book lent ≡ LoadOutcome.after (accepted n) held → changes_told held ≡ 0
unfolding load_of
load_told book lent n held e =
    let (presentation, o, f) = passed_loaded (load_book book) _ _ (LoadOutcome.after (accepted n) held) (other lent) e in
    let (b, g) = passed (ltb (length lent) 4297) _ _ (LoadOutcome.after (accepted n) held) (other lent (Narrow 1)) f in
    let x : held ≡ holding 0 book lent = cc in
    ap changes_told x ∙ told_held 0 book lent
  where
    other : (old : List ℕ) (r : Refusal) → LoadOutcome.after (refusal r) old ≡ LoadOutcome.after (accepted n) held → ⊥
    other old r e = let z : ◌≡◌ {A = ℕ} 0 1 = cc in omega arith

pub changes_limited : ChangesLimited
changes_limited book lent n held held' changes e c =
    let k = counted c in
    let z = load_told book lent n held e in
    by_cases (dec_le 1 (length changes)) (λ l. omega (arith, k.sum, k.most l)) (λ l. omega arith)

-- a change that leads to a book leads there beside every buffer that has room for the sheet
settled_elsewhere : (room other n : ℕ) (book book' cuts : List ℕ) → settled room book ≡ leads n book' cuts → sheet_columns * (2 * n) ≤ other
    → settled other book ≡ leads n book' cuts
unfolding settled
settled_elsewhere room other n book book' cuts e h =
    let (presentation, o, f) = passed_loaded (load_book book) refuses _ (leads n book' cuts) (λ r. leads_or_refuses r n book' cuts) e in
    let roomless = leads_or_refuses (Narrow 0) n book' cuts in
    let (b, g) = passed (ltb room (4 * (2 * length presentation.relations))) _ _ (leads n book' cuts) roomless f in
    let x : length presentation.relations ≡ n = cc in
    rw (o, le-ltb other (4 * (2 * length presentation.relations)) (omega arith)) g

leads_elsewhere : (change : Change) (held : List ℕ) (room other n : ℕ) (book cuts : List ℕ) → effect_of change held room ≡ leads n book cuts
    → sheet_columns * (2 * n) ≤ other → effect_of change held other ≡ leads n book cuts
unfolding effect_of
leads_elsewhere change held room other n book cuts e h =
    let (presentation, o, f) = made_first change held room n book cuts e in
    rw o (settled_elsewhere room other n (book_bytes presentation) book cuts f h)

-- a ticket of a change, with the count of a held book
record TicketOf (ticket : List ℕ) (change : Change) (held : List ℕ) : Type 0 where
  pub count : count_in ticket ≡ changes_told held
  pub changes : change_in ticket ≡ change

ticket_of : (change : Change) (held buffer : List ℕ) → TicketOf (over (ticket_bytes (changes_told held) change) buffer) change held
ticket_of change held buffer =
    let r = ticket_back (changes_told held) change buffer in
    record { count = r.0; changes = r.1 }

module _ (ticket : List ℕ) (change : Change) (held : List ℕ) (t : TicketOf ticket change held) where
  -- it is not stale for that book
  fresh : stale ticket held ≡ false
  fresh = ap not (eq-eqb (count_in ticket) (changes_told held) t.count)

  -- but for one that has counted more changes
  post_late : (other sheet : List ℕ) → changes_told held < changes_told other → post_of ticket other sheet ≡ ChangeOutcome.after (refused 16 0) other sheet
  unfolding post_of
  post_late other sheet h = rw (ne_eqb (count_in ticket) (changes_told other) (λ e. omega (arith, t.count)))

  -- its posting is the change made directly, where that leads to a book
  post_leads : (sheet : List ℕ) (n : ℕ) (book cuts : List ℕ) → effect_of change held (length sheet) ≡ leads n book cuts
      → post_of ticket held sheet ≡ change_of change held sheet
  unfolding post_of change_of
  post_leads sheet n book cuts e = rw (fresh, t.changes, e)

  -- where one more change is taken, it makes what the change comes to
  post_fresh : (sheet : List ℕ) → changes_told held < changes_most → post_of ticket held sheet ≡ made held sheet (effect_of change held (length sheet))
  unfolding post_of
  post_fresh sheet h = rw (fresh, t.changes, lt-leb 60000 (changes_told held) h)

pub postings_hold : PostingsHold
unfolding propose_of
postings_hold change held lent buffer n seen ticket e =
    let due = ltb (length buffer) 140 in
    let effect = effect_of change held (length lent) in
    let s = shown_accepted change held lent buffer (lastly due (Narrow 2) effect) n seen ticket e in
    let l = (lastly_leads due (Narrow 2) effect n s.book s.cuts s.is).1 in
    let t = subst (λ (x : List ℕ). TicketOf x change held) (sym s.tickets) (ticket_of change held buffer) in
    record {
      direct = λ sheet h.
          let e = leads_elsewhere change held (length lent) (length sheet) n s.book s.cuts l h in
          post_leads ticket change held t sheet n s.book s.cuts e;
      anywhere = λ h sheet. post_fresh ticket change held t sheet h ∙ sym (change_fresh change held sheet h);
      seen = λ h.
          let after = holding (changes_after held) s.book held in
          (after, post_fresh ticket change held t lent h ∙ ap (made held lent) l ∙ ap (ChangeOutcome.after (accepted n) after) (sym s.sheets));
      late = λ held' changes c h sheet. post_late ticket change held t held' sheet (omega (arith, (counted c).sum));
    }

-- the proposal of a change that is refused, and of one that leads to a book, in a buffer that has room for the ticket
propose_refuses : (change : Change) (held sheet buffer : List ℕ) (r : Refusal) → effect_of change held (length sheet) ≡ refuses r
    → propose_of change held sheet buffer ≡ ProposalOutcome.after (refusal r) sheet buffer
unfolding propose_of
propose_refuses change held sheet buffer r e = rw e

propose_leads : (change : Change) (held sheet buffer : List ℕ) (n : ℕ) (book cuts : List ℕ) → effect_of change held (length sheet) ≡ leads n book cuts
    → ticket_room ≤ length buffer
    → propose_of change held sheet buffer ≡ ProposalOutcome.after (accepted n) (over cuts sheet) (over (ticket_bytes (changes_told held) change) buffer)
unfolding propose_of
propose_leads change held sheet buffer n book cuts e h = rw (e, le-ltb (length buffer) 140 h)

pub posted_on_the_spot : PostedOnTheSpot
posted_on_the_spot change held sheet buffer room = go (effect_of change held (length sheet)) refl
  where
    go : (effect : Effect) → effect_of change held (length sheet) ≡ effect → OnTheSpot change held sheet buffer
    go (refuses r) e = OnTheSpot.refuses _ _ (propose_refuses change held sheet buffer r e) (change_refused change held sheet r e)
    go (leads n book cuts) e =
        let ticket = over (ticket_bytes (changes_told held) change) buffer in
        let p = post_leads ticket change held (ticket_of change held buffer) sheet n book cuts e in
        OnTheSpot.posts n (over cuts sheet) ticket (propose_leads change held sheet buffer n book cuts e room) (sym p)
