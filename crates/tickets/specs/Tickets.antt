-- What the writing of a ticket asks.
use Rattle.std.specs.Prelude.{ℕ, ◌<◌, ◌≤◌, List, length}
use Rattle.limits.specs.Limits.{ticket_prefix, ticket_room}
use Rattle.held.specs.Changes.{Change}
use Rattle.held.specs.Tickets.{number_of, ticket_bytes}

-- the three fields can say their numbers, and have room
pub record FieldsWritable (changes kind number : ℕ) (ticket : List ℕ) : Type 0 where
  pub counted : changes < 65536
  pub known : kind < 65536
  pub small : number < 65536
  pub room : ticket_prefix ≤ length ticket

-- the ticket of a change can be written: its fields can say their numbers, and it fits into the buffer
pub record TicketWritable (changes : ℕ) (change : Change) (ticket : List ℕ) : Type 0 where
  pub counted : changes < 65536
  pub small : number_of change < 65536
  pub fits : length (ticket_bytes changes change) ≤ ticket_room
  pub room : ticket_room ≤ length ticket
