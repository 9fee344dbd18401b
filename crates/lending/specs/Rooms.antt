-- The room of the buffer that a held book is in.
use Rattle.std.specs.Prelude.{ℕ, ◌≤◌, List, length}
use Rattle.limits.specs.Limits.{held_room}

-- the buffer has room for a held book
pub record Roomy (held : List ℕ) : Type 0 where
  pub room : held_room ≤ length held
