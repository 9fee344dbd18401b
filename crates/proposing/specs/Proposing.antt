-- What the showing of a new book asks.
use Rattle.std.specs.Prelude.{ℕ, ◌<◌, ◌≤◌, List, length}
use Rattle.limits.specs.Limits.{ticket_room}
use Rattle.held.specs.Held.{changes_told}
use Rattle.held.specs.Changes.{Change}
use Rattle.held.specs.Tickets.{number_of, ticket_bytes}

-- a change whose ticket has room, beside a count that its field can say
pub record Showable (change : Change) (held : List ℕ) : Type 0 where
  pub counted : changes_told held < 65536
  pub small : number_of change < 65536
  pub fits : (changes : ℕ) → length (ticket_bytes changes change) ≤ ticket_room
