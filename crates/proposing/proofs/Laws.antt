-- A law for each way that showing a new book and proposing a change can go.
use Prim.Native.Nat.{ℕ, ◌<◌, ◌≤◌}
use mathlib.Core.Bool.{Bool, true, false}
use mathlib.Core.List.{List}
use mathlib.Core.Path.{◌≡◌, refl, sym}
use native.Mathlib.Omega.{arith}
use borrow.Author.Rules.{rules}
use borrow.Author.Tests.{lt-ltb, le-ltb}
use lib.Dec.{ltb}
use lib.ListN.{length, get_or, take}
use mir.Syntax.{w8}
use mir.Val.{Fits}
use Rattle.std.specs.Prelude.{Result, Ok, Err}
use Rattle.words.specs.Writing.{over}
use Rattle.limits.specs.Limits.{held_prefix, ticket_room, ticket_buffer}
use Rattle.refusals.specs.declared.Refusal.{Refusal}
use Rattle.refusals.specs.declared.Refusal.TheVariants.{Narrow}
use Rattle.answers.specs.Answers.{of_verdict}
use Rattle.answers.specs.Entries.{SheetOutcome, sheet_of}
use Rattle.held.specs.Held.{changes_told}
use Rattle.held.specs.Changes.{Change, Effect, refuses, leads, settled, lastly}
use Rattle.held.specs.Tickets.{ticket_bytes, ProposalOutcome, shown, propose_of}
use Rattle.held.proofs.Effects.{lastly_none}
use Rattle.held.proofs.Tickets.{ticket_small, ticket_fits}
use Rattle.tickets.specs.Tickets.{TicketWritable}
use Rattle.renewing.specs.Making.{NewMade}
use Rattle.settling.specs.Settling.{answered}
use Rattle.settling.proofs.Laws.{sheet_refused, sheet_accepted, effect_refused, effect_settled, book_inside, book_long}
use Rattle.proposing.specs.Proposing.{Showable}

-- a refusal behind all others that is due keeps the buffers
late_shown : (change : Change) (held sheet ticket : List ℕ) (last : Refusal) (x : Effect)
    → shown change held sheet ticket (lastly true last x) ≡ ProposalOutcome.after (answered (lastly true last x)) sheet ticket
late_shown change held sheet ticket last (refuses r) = refl
late_shown change held sheet ticket last (leads n book cuts) = refl

-- showing a new book
module _ (book : List ℕ) (change : Change) (held sheet ticket : List ℕ) where
  -- the ticket's buffer is too small
  pub show_narrow : length ticket < ticket_room → (v : Result ℕ Refusal) → of_verdict v ≡ answered (lastly true (Narrow ticket_buffer) (settled (length sheet) book))
      → ProposalOutcome.after (of_verdict v) sheet ticket
      ≡ shown change held sheet ticket (lastly (ltb (length ticket) ticket_room) (Narrow ticket_buffer) (settled (length sheet) book))
  show_narrow h v e =
      rw (lt-ltb (length ticket) ticket_room h, e) (sym (late_shown change held sheet ticket (Narrow ticket_buffer) (settled (length sheet) book)))

  module _ (h : ticket_room ≤ length ticket) (sheet' : List ℕ) where
    -- what is shown is what the book comes to
    wide_shown : shown change held sheet ticket (lastly (ltb (length ticket) ticket_room) (Narrow ticket_buffer) (settled (length sheet) book))
        ≡ shown change held sheet ticket (settled (length sheet) book)
    wide_shown = rw (le-ltb (length ticket) ticket_room h, lastly_none (Narrow ticket_buffer) (settled (length sheet) book))

    -- a refused sheet keeps both buffers
    pub show_refused : (r : Refusal) → SheetOutcome.after (of_verdict (Err r)) sheet' ≡ sheet_of book sheet
        → ProposalOutcome.after (of_verdict (Err r)) sheet' ticket
        ≡ shown change held sheet ticket (lastly (ltb (length ticket) ticket_room) (Narrow ticket_buffer) (settled (length sheet) book))
    show_refused r e = let s = sheet_refused book sheet sheet' r e in rw (wide_shown, s.is) (cc (s.says, s.same))

    -- an accepted one has its ticket written
    pub show_given : (n : ℕ) → SheetOutcome.after (of_verdict (Ok n)) sheet' ≡ sheet_of book sheet → (changes : ℕ) → changes ≡ changes_told held → (ticket' : List ℕ)
        → ticket' ≡ over (ticket_bytes changes change) ticket
        → ProposalOutcome.after (of_verdict (Ok n)) sheet' ticket'
        ≡ shown change held sheet ticket (lastly (ltb (length ticket) ticket_room) (Narrow ticket_buffer) (settled (length sheet) book))
    show_given n e changes c ticket' q = let s = sheet_accepted book sheet sheet' n e in rw (wide_shown, s.is) (cc (s.says, s.same, q, c))

-- the ticket can be written
pub show_writable : (change : Change) (held ticket : List ℕ) → Showable change held → ticket_room ≤ length ticket → (changes : ℕ) → changes ≡ changes_told held
    → TicketWritable changes change ticket
show_writable change held ticket s h changes c = record { counted = omega arith; small = s.small; fits = s.fits changes; room = h }

pub ruleset shows = (show_narrow, show_refused, show_given, show_writable, rules)

-- a count of changes that is told can be said
told_small : (held : List ℕ) → ((i : ℕ) → Fits w8 (get_or held i 0)) → changes_told held < 65536
unfolding changes_told
told_small held are = go (ltb (length held) held_prefix) refl
  where
    go : (b : Bool) → ltb (length held) held_prefix ≡ b → changes_told held < 65536
    go true e = rw e (omega arith)
    go false e = rw e (omega (arith, are 2, are 3))

-- a proposal, by the new book that is made
module _ (change : Change) (held fresh fresh' : List ℕ) where
  -- a change that is refused keeps both buffers
  pub propose_refused : (sheet ticket : List ℕ) (r : Refusal) → NewMade change held fresh (Err r) fresh'
      → ProposalOutcome.after (of_verdict (Err r)) sheet ticket ≡ propose_of change held sheet ticket
  unfolding propose_of
  propose_refused sheet ticket r m = rw (effect_refused change held fresh fresh' r m (length sheet))

  module _ (n : ℕ) (m : NewMade change held fresh (Ok n) fresh') where
    -- it can be shown
    pub propose_showable : ((i : ℕ) → Fits w8 (get_or held i 0)) → Showable change held
    propose_showable are =
        let b = m.book n refl in
        record {
          counted = told_small held are;
          small = ticket_small change held b.presentation b.is;
          fits = λ changes. ticket_fits changes change held b.presentation b.is;
        }

    -- and showing it is the proposal
    pub propose_shown : (sheet ticket : List ℕ) (x : ProposalOutcome)
        → x ≡ shown change held sheet ticket (lastly (ltb (length ticket) ticket_room) (Narrow ticket_buffer) (settled (length sheet) (take n fresh')))
        → x ≡ propose_of change held sheet ticket
    unfolding propose_of
    propose_shown sheet ticket x q = rw (effect_settled change held fresh fresh' n m (length sheet)) q

pub ruleset proposals = (propose_refused, book_inside, book_long, propose_showable, propose_shown, rules)
