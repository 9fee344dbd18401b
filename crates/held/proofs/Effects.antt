-- What a change comes to, and the outcomes that are made of it: an accepted one is of a change that leads to a new book, a refused one keeps the buffers,
-- and a posting that is accepted is the change made directly.
use Prim.Native.Nat.{ℕ, ◌<◌, ◌≤◌}
use mathlib.Core.Bool.{Bool, true, false}
use mathlib.Core.List.{List}
use mathlib.Core.Path.{◌≡◌, refl, sym, ap, ◌∙◌}
use native.Mathlib.Omega.{arith}
use borrow.Author.Tests.{le-leb, lt-leb, leb-false}
use lib.ListN.{length}
use Rattle.words.specs.Writing.{over}
use Rattle.limits.specs.Limits.{changes_most}
use Rattle.refusals.specs.declared.Refusal.{Refusal}
use Rattle.refusals.specs.declared.Refusal.TheVariants.{StaleTicket, BookWorn}
use Rattle.refusals.specs.Refusals.{number_and_place}
use Rattle.answers.specs.Answers.{accepted, refused, refusal}
use Rattle.held.specs.Held.{changes_told, changes_after, worn, holding}
use Rattle.held.specs.Changes.{Change, Effect, refuses, leads, effect_of, firstly, lastly, ChangeOutcome, made, change_of}
use Rattle.held.specs.Tickets.{ticket_bytes, change_in, stale, ProposalOutcome, shown, post_of}

-- an outcome is not of an acceptance and of a refusal
accepted_or_refused : (n m place : ℕ) (held sheet held' sheet' : List ℕ)
    → ChangeOutcome.after (refused m place) held sheet ≡ ChangeOutcome.after (accepted n) held' sheet' → ⊥
accepted_or_refused n m place held sheet held' sheet' e = let z : ◌≡◌ {A = ℕ} 0 1 = cc in omega arith

accepted_or_rejected : (n m place : ℕ) (sheet ticket sheet' ticket' : List ℕ)
    → ProposalOutcome.after (refused m place) sheet ticket ≡ ProposalOutcome.after (accepted n) sheet' ticket' → ⊥
accepted_or_rejected n m place sheet ticket sheet' ticket' e = let z : ◌≡◌ {A = ℕ} 0 1 = cc in omega arith

-- a change does not both lead to a book and have a refusal
pub leads_or_refuses : (r : Refusal) (n : ℕ) (book cuts : List ℕ) → refuses r ≡ leads n book cuts → ⊥
leads_or_refuses r n book cuts e = let z : ◌≡◌ {A = ℕ} 0 1 = cc in omega arith

-- an accepted outcome: the change leads to a book, which is held, and its sheet is written
pub record MadeOf (held sheet : List ℕ) (effect : Effect) (n : ℕ) (held' sheet' : List ℕ) : Type 0 where
  pub book : List ℕ
  pub cuts : List ℕ
  pub is : effect ≡ leads n book cuts
  pub holds : held' ≡ holding (changes_after held) book held
  pub sheets : sheet' ≡ over cuts sheet

pub made_accepted : (held sheet : List ℕ) (effect : Effect) (n : ℕ) (held' sheet' : List ℕ)
    → made held sheet effect ≡ ChangeOutcome.after (accepted n) held' sheet' → MadeOf held sheet effect n held' sheet'
made_accepted held sheet (refuses r) n held' sheet' e = absurd (accepted_or_refused n _ _ held sheet held' sheet' e)
made_accepted held sheet (leads m book cuts) n held' sheet' e =
    let x : m ≡ n = cc in
    let y : held' ≡ holding (changes_after held) book held = cc in
    let z : sheet' ≡ over cuts sheet = cc in
    record { book = book; cuts = cuts; is = ap (λ (k : ℕ). leads k book cuts) x; holds = y; sheets = z }

-- a refused outcome has the number and the place of a refusal, and both buffers are kept
pub record KeptOf (effect : Effect) (n place : ℕ) : Type 0 where
  pub why : Refusal
  pub is : effect ≡ refuses why
  pub number : n ≡ (number_and_place why).number
  pub at : place ≡ (number_and_place why).place

pub made_refused : (held sheet : List ℕ) (effect : Effect) (n place : ℕ) (held' sheet' : List ℕ)
    → made held sheet effect ≡ ChangeOutcome.after (refused n place) held' sheet' → KeptOf effect n place × (held' ≡ held) × (sheet' ≡ sheet)
made_refused held sheet (refuses r) n place held' sheet' e =
    let w : n ≡ (number_and_place r).number = cc in
    let x : place ≡ (number_and_place r).place = cc in
    let y : held' ≡ held = cc in
    let z : sheet' ≡ sheet = cc in
    (record { why = r; is = refl; number = w; at = x }, y, z)
made_refused held sheet (leads m book cuts) n place held' sheet' e = absurd (accepted_or_refused m n place held' sheet' _ _ (sym e))

-- the same of what is shown
pub record ShownOf (change : Change) (held sheet ticket : List ℕ) (effect : Effect) (n : ℕ) (sheet' ticket' : List ℕ) : Type 0 where
  pub book : List ℕ
  pub cuts : List ℕ
  pub is : effect ≡ leads n book cuts
  pub sheets : sheet' ≡ over cuts sheet
  pub tickets : ticket' ≡ over (ticket_bytes (changes_told held) change) ticket

pub shown_accepted : (change : Change) (held sheet ticket : List ℕ) (effect : Effect) (n : ℕ) (sheet' ticket' : List ℕ)
    → shown change held sheet ticket effect ≡ ProposalOutcome.after (accepted n) sheet' ticket' → ShownOf change held sheet ticket effect n sheet' ticket'
shown_accepted change held sheet ticket (refuses r) n sheet' ticket' e = absurd (accepted_or_rejected n _ _ sheet ticket sheet' ticket' e)
shown_accepted change held sheet ticket (leads m book cuts) n sheet' ticket' e =
    let x : m ≡ n = cc in
    let y : sheet' ≡ over cuts sheet = cc in
    let z : ticket' ≡ over (ticket_bytes (changes_told held) change) ticket = cc in
    record { book = book; cuts = cuts; is = ap (λ (k : ℕ). leads k book cuts) x; sheets = y; tickets = z }

pub shown_refused : (change : Change) (held sheet ticket : List ℕ) (effect : Effect) (n place : ℕ) (sheet' ticket' : List ℕ)
    → shown change held sheet ticket effect ≡ ProposalOutcome.after (refused n place) sheet' ticket'
    → KeptOf effect n place × (sheet' ≡ sheet) × (ticket' ≡ ticket)
shown_refused change held sheet ticket (refuses r) n place sheet' ticket' e =
    let w : n ≡ (number_and_place r).number = cc in
    let x : place ≡ (number_and_place r).place = cc in
    let y : sheet' ≡ sheet = cc in
    let z : ticket' ≡ ticket = cc in
    (record { why = r; is = refl; number = w; at = x }, y, z)
shown_refused change held sheet ticket (leads m book cuts) n place sheet' ticket' e = absurd (accepted_or_rejected m n place sheet' ticket' _ _ (sym e))

-- a refusal that comes behind all others, or before them, was not due
pub lastly_leads : (due : Bool) (r : Refusal) (effect : Effect) (n : ℕ) (book cuts : List ℕ) → lastly due r effect ≡ leads n book cuts
    → (due ≡ false) × (effect ≡ leads n book cuts)
lastly_leads due r (refuses s) n book cuts e = absurd (leads_or_refuses s n book cuts e)
lastly_leads true r (leads m b c) n book cuts e = absurd (leads_or_refuses r n book cuts e)
lastly_leads false r (leads m b c) n book cuts e = (refl, e)

pub firstly_leads : (due : Bool) (r : Refusal) (effect : Effect) (n : ℕ) (book cuts : List ℕ) → firstly due r effect ≡ leads n book cuts
    → (due ≡ false) × (effect ≡ leads n book cuts)
firstly_leads true r effect n book cuts e = absurd (leads_or_refuses r n book cuts e)
firstly_leads false r effect n book cuts e = (refl, e)

-- one that is not due changes nothing
pub lastly_none : (r : Refusal) (effect : Effect) → lastly false r effect ≡ effect
lastly_none r (refuses s) = refl
lastly_none r (leads n book cuts) = refl

-- a change that is accepted: it leads to a book, and one more change is taken
pub record Taking (change : Change) (held lent : List ℕ) (n : ℕ) (held' sheet : List ℕ) : Type 0 where
  pub book : List ℕ
  pub cuts : List ℕ
  pub is : effect_of change held (length lent) ≡ leads n book cuts
  pub fresh : worn held ≡ false
  pub below : changes_told held < changes_most
  pub holds : held' ≡ holding (changes_after held) book held
  pub sheets : sheet ≡ over cuts lent

-- that is so where what it comes to was made, and no refusal stood in its way
taking : (change : Change) (held lent : List ℕ) (effect : Effect) (n : ℕ) (held' sheet : List ℕ) (m : MadeOf held lent effect n held' sheet)
    → worn held ≡ false → effect_of change held (length lent) ≡ leads n m.book m.cuts → Taking change held lent n held' sheet
taking change held lent effect n held' sheet m w e =
    record { book = m.book; cuts = m.cuts; is = e; fresh = w; below = leb-false 60000 (changes_told held) w; holds = m.holds; sheets = m.sheets }

pub change_accepted : (change : Change) (held lent : List ℕ) (n : ℕ) (held' sheet : List ℕ)
    → change_of change held lent ≡ ChangeOutcome.after (accepted n) held' sheet → Taking change held lent n held' sheet
unfolding change_of
change_accepted change held lent n held' sheet e =
    let effect = effect_of change held (length lent) in
    let m = made_accepted held lent (lastly (worn held) BookWorn effect) n held' sheet e in
    let l = lastly_leads (worn held) BookWorn effect n m.book m.cuts m.is in
    taking change held lent _ n held' sheet m l.0 l.1

-- where one more change is taken, the outcome is that of what the change comes to
pub change_fresh : (change : Change) (held lent : List ℕ) → changes_told held < changes_most
    → change_of change held lent ≡ made held lent (effect_of change held (length lent))
unfolding change_of
change_fresh change held lent h = rw (lt-leb 60000 (changes_told held) h) (ap (made held lent) (lastly_none BookWorn (effect_of change held (length lent))))

-- a change that leads to a book is refused by 17 where no more changes are taken
pub change_worn : (change : Change) (held lent : List ℕ) (n : ℕ) (book cuts : List ℕ) → changes_most ≤ changes_told held
    → effect_of change held (length lent) ≡ leads n book cuts → change_of change held lent ≡ ChangeOutcome.after (refused 17 0) held lent
unfolding change_of
change_worn change held lent n book cuts h e = rw (e, le-leb 60000 (changes_told held) h)

-- a refusal of the change comes before 17
pub change_refused : (change : Change) (held lent : List ℕ) (r : Refusal) → effect_of change held (length lent) ≡ refuses r
    → change_of change held lent ≡ ChangeOutcome.after (refusal r) held lent
unfolding change_of
change_refused change held lent r e = rw e

-- a posting that is accepted: its ticket is not stale, and it leads where its change does
pub post_accepted : (ticket held lent : List ℕ) (n : ℕ) (held' sheet : List ℕ) → post_of ticket held lent ≡ ChangeOutcome.after (accepted n) held' sheet
    → (stale ticket held ≡ false) × Taking (change_in ticket) held lent n held' sheet
unfolding post_of
post_accepted ticket held lent n held' sheet e =
    let effect = effect_of (change_in ticket) held (length lent) in
    let m = made_accepted held lent (firstly (stale ticket held) StaleTicket (firstly (worn held) BookWorn effect)) n held' sheet e in
    let s = firstly_leads (stale ticket held) StaleTicket (firstly (worn held) BookWorn effect) n m.book m.cuts m.is in
    let l = firstly_leads (worn held) BookWorn effect n m.book m.cuts s.1 in
    (s.0, taking (change_in ticket) held lent _ n held' sheet m l.0 l.1)

-- so it is the change made directly
pub posted_direct : (ticket held lent : List ℕ) (n : ℕ) (held' sheet : List ℕ) → post_of ticket held lent ≡ ChangeOutcome.after (accepted n) held' sheet
    → change_of (change_in ticket) held lent ≡ ChangeOutcome.after (accepted n) held' sheet
posted_direct ticket held lent n held' sheet e =
    let t = (post_accepted ticket held lent n held' sheet e).1 in
    let d : change_of (change_in ticket) held lent ≡ ChangeOutcome.after (accepted n) (holding (changes_after held) t.book held) (over t.cuts lent)
    = change_fresh (change_in ticket) held lent t.below ∙ ap (made held lent) t.is in
    cc (d, t.holds, t.sheets)
