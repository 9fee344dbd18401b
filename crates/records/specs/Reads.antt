-- What the readers of records ask and promise.
use Rattle.std.specs.Prelude.{ℕ, ◌+◌, ◌≤◌, ◌<◌, List, ◌≡◌, length}
use Rattle.format.specs.Book.{field, relation_start}

-- r is the two-byte field at a position
pub record Field (book : List ℕ) (at r : ℕ) : Type 0 where
  pub same : r ≡ field book at
  pub small : r < 65536

-- a record's payload lies in the book
pub record Payload (book : List ℕ) (from to : ℕ) : Type 0 where
  pub order : from ≤ to
  pub inside : to ≤ length book

-- the records of so many relations lie in the book, which is not too long to count
pub record Starts (book : List ℕ) (k : ℕ) : Type 0 where
  pub inside : (i : ℕ) → i < k → relation_start book i + 1 < length book
  pub ends : (i : ℕ) → i ≤ k → relation_start book i ≤ length book
