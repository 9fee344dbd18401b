-- What the parts that read and write a held book ask.
use Rattle.std.specs.Prelude.{ℕ, ◌≤◌, List, length}
use Rattle.limits.specs.Limits.{book_most, held_room, changes_most}

-- a book with its count of changes can be held in the buffer
pub record Holdable (book : List ℕ) (changes : ℕ) (held : List ℕ) : Type 0 where
  pub few : length book ≤ book_most
  pub counted : changes ≤ changes_most
  pub room : held_room ≤ length held
