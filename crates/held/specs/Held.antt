-- What a held book is (document 01, "Rules that come and go"): in a lent buffer, the length of a book, the count of changes since it was loaded, and the book's own
-- bytes. Nothing is kept beside them: every call reads the book again.
use Rattle.std.specs.Prelude.{ℕ, ◌+◌, min, Bool, cond, List, ◌++◌, ltb, leb, length, take, drop}
use Rattle.words.specs.Writing.{over}
use Rattle.limits.specs.Limits.{held_length_at, held_changes_at, held_prefix, held_room, changes_most, held_buffer}
use Rattle.refusals.specs.declared.Refusal.TheVariants.{Narrow}
use Rattle.format.specs.Book.{BookReading, refused, field, read_book}
use Rattle.format.specs.Bytes.{field_bytes}

-- the book that is held: as many bytes as the length says, as far as the buffer has them
unfoldable pub book_in : List ℕ → List ℕ
book_in held = take (field held held_length_at) (drop held_prefix held)

-- where it begins, which is in the buffer in any case
abbrev pub book_start : List ℕ → ℕ
book_start held = min held_prefix (length held)

-- the count of changes
abbrev pub changes_in : List ℕ → ℕ
changes_in held = field held held_changes_at

-- what is told of it: nothing is counted in a buffer that has no room for the two fields
unfoldable pub changes_told : List ℕ → ℕ
changes_told held = cond (ltb (length held) held_prefix) 0 (changes_in held)

-- what it is after one more
abbrev pub changes_after : List ℕ → ℕ
changes_after held = changes_told held + 1

-- no more changes are taken (document 01, "Propose, then post": worn)
abbrev pub worn : List ℕ → Bool
worn held = leb changes_most (changes_told held)

-- a held book in bytes
abbrev pub held_bytes : ℕ → List ℕ → List ℕ
held_bytes changes book = field_bytes (length book) ++ (field_bytes changes ++ book)

-- a book put into a buffer, with its count of changes; the bytes behind it are kept
unfoldable pub holding : ℕ → List ℕ → List ℕ → List ℕ
holding changes book held = over (held_bytes changes book) held

-- what a change finds: 12 where the buffer is below the room of a held book, else what reading the book that is held gives
unfoldable pub taken_up : List ℕ → BookReading
taken_up held = cond (ltb (length held) held_room) (refused (Narrow held_buffer)) (read_book (book_in held))
