-- What the making of a new book's bytes asks and promises.
use Rattle.std.specs.Prelude.{ℕ, ◌+◌, ◌≤◌, List, ◌++◌, ◌≡◌, length, take, drop, Result, Ok, Err}
use Rattle.limits.specs.Limits.{book_most, held_room}
use Rattle.refusals.specs.declared.Refusal.{Refusal}
use Rattle.format.specs.Book.{Presentation, read, refused, relation_start}
use Rattle.format.specs.Bytes.{book_bytes}
use Rattle.records.specs.Reads.{Starts}
use Rattle.held.specs.Held.{book_in}
use Rattle.held.specs.Changes.{Change, changed_in}

-- the bytes of what a change makes of a held book are the first n of an array
pub record NewBook (change : Change) (held : List ℕ) (n : ℕ) (fresh : List ℕ) : Type 0 where
  pub presentation : Presentation
  pub is : changed_in change held ≡ read presentation
  pub bytes : take n fresh ≡ book_bytes presentation
  pub inside : n ≤ length fresh
  pub few : n ≤ book_most
  pub room : held_room ≤ length held

-- the new book is made, or the change's refusal is given; the array keeps its length
pub record NewMade (change : Change) (held fresh : List ℕ) (r : Result ℕ Refusal) (fresh' : List ℕ) : Type 0 where
  pub book : (n : ℕ) → r ≡ Ok n → NewBook change held n fresh'
  pub refuses : (x : Refusal) → r ≡ Err x → changed_in change held ≡ refused x
  pub long : length fresh' ≡ length fresh

-- a book and what is to stand behind it have room in an array
pub record Appendable (held bytes fresh : List ℕ) : Type 0 where
  pub room : length (book_in held) + length bytes ≤ length fresh

-- so many bytes are written: the book that is held, and others behind it
pub record BookAppended (held bytes fresh : List ℕ) (n : ℕ) (fresh' : List ℕ) : Type 0 where
  pub count : n ≡ length (book_in held) + length bytes
  pub front : take n fresh' ≡ book_in held ++ bytes
  pub long : length fresh' ≡ length fresh

-- a part lies in a book, which has room in an array
pub record PartRemovable (book : List ℕ) (from to : ℕ) (fresh : List ℕ) : Type 0 where
  pub order : from ≤ to
  pub inside : to ≤ length book
  pub room : length book ≤ length fresh

-- so many bytes are written: the book without that part
pub record PartLeftOut (book : List ℕ) (from to : ℕ) (fresh : List ℕ) (n : ℕ) (fresh' : List ℕ) : Type 0 where
  pub count : n ≤ length book
  pub front : take n fresh' ≡ take from book ++ drop to book
  pub long : length fresh' ≡ length fresh

-- the record of relation i lies in the book that is held, which has room in an array
pub record Removable (held : List ℕ) (i : ℕ) (fresh : List ℕ) : Type 0 where
  pub starts : Starts (book_in held) (i + 1)
  pub room : length (book_in held) ≤ length fresh

-- so many bytes are written: the book that is held without the record of relation i
pub record RecordLeftOut (held : List ℕ) (i : ℕ) (fresh : List ℕ) (n : ℕ) (fresh' : List ℕ) : Type 0 where
  pub count : n ≤ length (book_in held)
  pub front : take n fresh' ≡ take (relation_start (book_in held) i) (book_in held) ++ drop (relation_start (book_in held) (i + 1)) (book_in held)
  pub long : length fresh' ≡ length fresh
