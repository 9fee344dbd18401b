-- What is owed of tickets, proposals and postings, in the words of the papers (document 01, "Propose, then post"), said of the definitions of specs/Tickets.antt.
use Rattle.std.specs.Prelude.{ℕ, ◌+◌, ◌*◌, ◌<◌, ◌≤◌, List, ◌≡◌, length}
use Rattle.words.specs.Writing.{over}
use Rattle.limits.specs.Limits.{sheet_columns, changes_most, ticket_room}
use Rattle.format.specs.Bytes.{AreBytes}
use Rattle.answers.specs.Answers.{accepted, refused}
use Rattle.held.specs.Held.{changes_told}
use Rattle.held.specs.Changes.{LoadOutcome, load_of, Change, addition, withdrawal, leads, effect_of, ChangeOutcome, change_of}
use Rattle.held.specs.Tickets.{number_of, ticket_bytes, count_in, change_in, ProposalOutcome, propose_of, post_of}
use Rattle.held.specs.Demands.{Changes}

-- what a change brings along is bytes
abbrev pub InBytes : Change → Type 0
InBytes (addition bytes) = AreBytes bytes
InBytes (withdrawal i) = Unit {0}

-- a ticket whose count and number two bytes can have is a list of bytes, and what is written is read back: its count and its change, whatever stands behind it
abbrev pub TicketsRead : Type 0
TicketsRead = (changes : ℕ) (change : Change) (buffer : List ℕ) → changes < 65536 → number_of change < 65536 → InBytes change
    → AreBytes (ticket_bytes changes change)
    × (count_in (over (ticket_bytes changes change) buffer) ≡ changes)
    × (change_in (over (ticket_bytes changes change) buffer) ≡ change)

-- that is so of every ticket that is written: the count of a held book is below that, and so is the number of every change that is not refused
abbrev pub TicketsSmall : Type 0
TicketsSmall = (change : Change) (held : List ℕ) (room n : ℕ) (book cuts : List ℕ) → AreBytes held → effect_of change held room ≡ leads n book cuts
    → (changes_told held < 65536) × (number_of change < 65536)

-- the room of a ticket suffices for every change that is not refused
abbrev pub TicketsFit : Type 0
TicketsFit = (change : Change) (held : List ℕ) (room n : ℕ) (book cuts : List ℕ) (changes : ℕ) → effect_of change held room ≡ leads n book cuts
    → length (ticket_bytes changes change) ≤ ticket_room

-- a refused proposal leaves both lent buffers as they were, and so does a refused posting
abbrev pub ProposalsKeep : Type 0
ProposalsKeep = (change : Change) (held sheet ticket : List ℕ) (n place : ℕ) (sheet' ticket' : List ℕ)
    → propose_of change held sheet ticket ≡ ProposalOutcome.after (refused n place) sheet' ticket' → (sheet' ≡ sheet) × (ticket' ≡ ticket)

abbrev pub PostingsKeep : Type 0
PostingsKeep = (ticket held sheet : List ℕ) (n place : ℕ) (held' sheet' : List ℕ)
    → post_of ticket held sheet ≡ ChangeOutcome.after (refused n place) held' sheet' → (held' ≡ held) × (sheet' ≡ sheet)

-- the refusals of a change itself, by their numbers: of the bytes of a book or of a record, of a new book, of a buffer, of an index
pub data OfChange : ℕ → Type 0 where
  short : OfChange 1
  kind : OfChange 2
  misfit : OfChange 3
  range : OfChange 4
  unknown : OfChange 5
  thick : OfChange 6
  loose : OfChange 8
  narrow : OfChange 12
  absent : OfChange 15

-- a proposal has no other: it is allowed whatever the count of changes is
abbrev pub ProposalsOfChange : Type 0
ProposalsOfChange = (change : Change) (held sheet ticket : List ℕ) (n place : ℕ) (sheet' ticket' : List ℕ)
    → propose_of change held sheet ticket ≡ ProposalOutcome.after (refused n place) sheet' ticket' → OfChange n

-- a change that is made directly is never refused by 16
abbrev pub NeverStale : Type 0
NeverStale = (change : Change) (held sheet : List ℕ) (place : ℕ) (held' sheet' : List ℕ)
    → change_of change held sheet ≡ ChangeOutcome.after (refused 16 place) held' sheet' → ⊥

-- whatever a ticket says, a posting that is accepted gives what its change made directly gives
abbrev pub PostingsAreChanges : Type 0
PostingsAreChanges = (ticket held sheet : List ℕ) (n : ℕ) (held' sheet' : List ℕ) → post_of ticket held sheet ≡ ChangeOutcome.after (accepted n) held' sheet'
    → change_of (change_in ticket) held sheet ≡ ChangeOutcome.after (accepted n) held' sheet'

-- what the posting of a proposal's ticket gives
pub record Posted (change : Change) (held lent : List ℕ) (n : ℕ) (shown ticket : List ℕ) : Type 0 where
  -- with no change between: what the change made directly gives, in every sheet's buffer that has room for the sheet
  pub direct : (sheet : List ℕ) → sheet_columns * (2 * n) ≤ length sheet → post_of ticket held sheet ≡ change_of change held sheet
  -- and in any buffer, where one more change is taken
  pub anywhere : changes_told held < changes_most → (sheet : List ℕ) → post_of ticket held sheet ≡ change_of change held sheet
  -- the sheet that was shown, and the number of relations
  pub seen : changes_told held < changes_most → (held' : List ℕ) × (post_of ticket held lent ≡ ChangeOutcome.after (accepted n) held' shown)
  -- after any change between: 16
  pub late : (held' : List ℕ) (changes : List Change) → Changes held changes held' → 1 ≤ length changes → (sheet : List ℕ)
      → post_of ticket held' sheet ≡ ChangeOutcome.after (refused 16 0) held' sheet

abbrev pub PostingsHold : Type 0
PostingsHold = (change : Change) (held lent buffer : List ℕ) (n : ℕ) (shown ticket : List ℕ)
    → propose_of change held lent buffer ≡ ProposalOutcome.after (accepted n) shown ticket → Posted change held lent n shown ticket

-- a change that is made directly is a proposal, in a ticket's buffer that has room, posted on the spot: the refusal of the proposal, or else what the posting of its ticket gives
pub data OnTheSpot (change : Change) (held sheet buffer : List ℕ) : Type 0 where
  refuses : (n place : ℕ) → propose_of change held sheet buffer ≡ ProposalOutcome.after (refused n place) sheet buffer
      → change_of change held sheet ≡ ChangeOutcome.after (refused n place) held sheet → OnTheSpot change held sheet buffer
  posts : (n : ℕ) (shown ticket : List ℕ) → propose_of change held sheet buffer ≡ ProposalOutcome.after (accepted n) shown ticket
      → change_of change held sheet ≡ post_of ticket held sheet → OnTheSpot change held sheet buffer

abbrev pub PostedOnTheSpot : Type 0
PostedOnTheSpot = (change : Change) (held sheet buffer : List ℕ) → ticket_room ≤ length buffer → OnTheSpot change held sheet buffer

-- each accepted change is counted, and none is taken where the count is at its most
pub record Counted (held : List ℕ) (changes : List Change) (held' : List ℕ) : Type 0 where
  pub sum : changes_told held' ≡ changes_told held + length changes
  pub most : 1 ≤ length changes → changes_told held' ≤ changes_most

abbrev pub ChangesCounted : Type 0
ChangesCounted = (held held' : List ℕ) (changes : List Change) → Changes held changes held' → Counted held changes held'

-- so a held book takes at most 60,000 changes from loading
abbrev pub ChangesLimited : Type 0
ChangesLimited = (book lent : List ℕ) (n : ℕ) (held held' : List ℕ) (changes : List Change) → load_of book lent ≡ LoadOutcome.after (accepted n) held
    → Changes held changes held' → length changes ≤ changes_most
