-- Tickets, and what proposing a change and posting a ticket give (document 01, "Propose, then post"), for every content of every lent buffer. A ticket is a change and a
-- count of changes; every list of bytes is one.
use Rattle.std.specs.Prelude.{ℕ, Bool, cond, List, ◌++◌, eqb, ltb, length, take, drop}
use Rattle.words.specs.Writing.{over}
use Rattle.limits.specs.Limits.{ticket_changes_at, ticket_kind_at, ticket_number_at, ticket_prefix, ticket_room, ticket_buffer, addition_kind, withdrawal_kind}
use Rattle.refusals.specs.declared.Refusal.TheVariants.{Narrow, StaleTicket, BookWorn}
use Rattle.format.specs.Book.{field, differs}
use Rattle.format.specs.Bytes.{field_bytes}
use Rattle.answers.specs.Answers.{Answer, accepted, refusal}
use Rattle.held.specs.Held.{changes_told, worn}
use Rattle.held.specs.Changes.{Change, addition, withdrawal, Effect, refuses, leads, effect_of, firstly, lastly, ChangeOutcome, made}

-- the number of a change: of an addition that of its bytes, of a withdrawal the index
abbrev pub number_of : Change → ℕ
number_of (addition bytes) = length bytes
number_of (withdrawal i) = i

-- a ticket in bytes: a count of changes, the kind of the change, its number, and the bytes of an addition
abbrev pub fields_of : ℕ → ℕ → ℕ → List ℕ
fields_of changes kind number = field_bytes changes ++ (field_bytes kind ++ field_bytes number)

abbrev pub ticket_bytes : ℕ → Change → List ℕ
ticket_bytes changes (addition bytes) = fields_of changes addition_kind (length bytes) ++ bytes
ticket_bytes changes (withdrawal i) = fields_of changes withdrawal_kind i

-- the count that a ticket has, whatever its bytes are; a byte that is not there is read as 0
abbrev pub count_in : List ℕ → ℕ
count_in ticket = field ticket ticket_changes_at

-- the bytes that it has for an addition: as many as the number says, as far as they are there
unfoldable pub record_in : List ℕ → List ℕ
record_in ticket = take (field ticket ticket_number_at) (drop ticket_prefix ticket)

-- its change: every kind but that of additions is a withdrawal
unfoldable pub change_in : List ℕ → Change
change_in ticket = cond (eqb (field ticket ticket_kind_at) addition_kind) (addition (record_in ticket)) (withdrawal (field ticket ticket_number_at))

-- its count is not that of a held book
abbrev pub stale : List ℕ → List ℕ → Bool
stale ticket held = differs (count_in ticket) (changes_told held)

-- the outcome of a proposal: an answer, and the lent buffers of the sheet and of the ticket after it; the held book is only read
pub data ProposalOutcome : Type 0 where
  after : Answer → List ℕ → List ℕ → ProposalOutcome

-- what a change comes to is shown: a refusal keeps both buffers; else the sheet that it would lead to is written, and a ticket with the count that the held book has
abbrev pub shown : Change → List ℕ → List ℕ → List ℕ → Effect → ProposalOutcome
shown change held sheet ticket (refuses r) = ProposalOutcome.after (refusal r) sheet ticket
shown change held sheet ticket (leads n book cuts) =
    ProposalOutcome.after (accepted n) (over cuts sheet) (over (ticket_bytes (changes_told held) change) ticket)

-- a proposal: 12 of the ticket's buffer comes behind the refusals of the change
unfoldable pub propose_of : Change → List ℕ → List ℕ → List ℕ → ProposalOutcome
propose_of change held sheet ticket =
    shown change held sheet ticket (lastly (ltb (length ticket) ticket_room) (Narrow ticket_buffer) (effect_of change held (length sheet)))

-- a posting: 16 and 17 come before the refusals of the ticket's change
unfoldable pub post_of : List ℕ → List ℕ → List ℕ → ChangeOutcome
post_of ticket held sheet =
    made held sheet (firstly (stale ticket held) StaleTicket (firstly (worn held) BookWorn (effect_of (change_in ticket) held (length sheet))))
