-- What lies in a buffer that a book is put into: the book, the count of changes, and as many bytes as before.
use Prim.Native.Nat.{ℕ, ◌+◌, ◌*◌, ◌/◌, ◌%◌, ◌≤◌}
use mathlib.Core.List.{List}
use mathlib.Core.Logic.{by_cases}
use mathlib.Core.Path.{◌≡◌, sym}
use native.Mathlib.Omega.{arith}
use native.Mathlib.Decide.{dec_lt}
use lib.ListN.{length, take, drop, length-take, get_or-eq_default}
use lib.Seq.{take_at, get_or-take, get_or-drop}
use Rattle.writing.proofs.Writing.{over_kept}
use Rattle.limits.specs.Limits.{held_length_at, held_prefix, book_most, held_room}
use Rattle.format.specs.Book.{field}
use Rattle.format.specs.Bytes.{AreBytes}
use Rattle.held.specs.Held.{book_in, changes_in, held_bytes, holding}

-- a number is what its two bytes say
bytes_say : (n : ℕ) → n % 256 + 256 * (n / 256) ≡ n
bytes_say n = omega arith

-- the book that was put there
pub book_held : (changes : ℕ) (book held : List ℕ) → book_in (holding changes book held) ≡ book
unfolding book_in holding
book_held changes book held =
    take_at book (drop (length (held_bytes changes book)) held) (length book % 256 + 256 * (length book / 256)) (sym (bytes_say (length book)))

-- its count of changes
pub changes_held : (changes : ℕ) (book held : List ℕ) → changes_in (holding changes book held) ≡ changes
unfolding holding
changes_held changes book held = bytes_say changes

-- the buffer is as long as it was
pub holding_long : (changes : ℕ) (book held : List ℕ) → length book ≤ book_most → held_room ≤ length held → length (holding changes book held) ≡ length held
unfolding holding
holding_long changes book held h k = over_kept (held_bytes changes book) held (omega arith)

-- the front of a list of bytes is one, and so is what is left of it
front_bytes : (n : ℕ) (s : List ℕ) → AreBytes s → AreBytes (take n s)
front_bytes n s are i = by_cases (dec_lt i n) (λ h. rw (get_or-take n s i 0 h) (are i)) (λ h.
    rw (get_or-eq_default (take n s) 0 {n = i} (omega (arith, length-take n s))) (omega arith))

rest_bytes : (n : ℕ) (s : List ℕ) → AreBytes s → AreBytes (drop n s)
rest_bytes n s are i = rw (get_or-drop n s i 0) (are (n + i))

-- the book of a buffer of bytes is one of bytes
pub book_bytes_lem : (held : List ℕ) → AreBytes held → AreBytes (book_in held)
unfolding book_in
book_bytes_lem held are = front_bytes (field held held_length_at) (drop held_prefix held) (rest_bytes held_prefix held are)
