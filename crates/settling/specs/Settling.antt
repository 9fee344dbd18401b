-- What the settling of a new book asks and promises.
use Rattle.std.specs.Prelude.{ℕ, ◌<◌, ◌≤◌, List, length}
use Rattle.limits.specs.Limits.{book_most, held_room, changes_most}
use Rattle.answers.specs.Answers.{Answer, accepted, refusal}
use Rattle.held.specs.Held.{changes_told}
use Rattle.held.specs.Changes.{Effect, refuses, leads}

-- the answer alone of what a change comes to
abbrev pub answered : Effect → Answer
answered (refuses r) = refusal r
answered (leads n book cuts) = accepted n

-- a book that is small enough to be held, and a buffer with room for it
pub record Settleable (book held : List ℕ) : Type 0 where
  pub few : length book ≤ book_most
  pub room : held_room ≤ length held

-- and one that takes one more change
pub record Takeable (book held : List ℕ) : Type 0 where
  pub few : length book ≤ book_most
  pub room : held_room ≤ length held
  pub more : changes_told held < changes_most
