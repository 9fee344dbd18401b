-- A ticket is read as it was written, and one of a change that can be proposed is small: an addition has at most 134 bytes, a withdrawal an index
-- below 32.
use Prim.Native.Nat.{ℕ, zero, suc, ◌+◌, ◌*◌, ◌/◌, ◌%◌, ◌<◌, ◌≤◌}
use mathlib.Core.Bool.{Bool, true, false, cond}
use mathlib.Core.List.{List, [], ◌++◌}
use mathlib.Core.Path.{◌≡◌, ap}
use native.Mathlib.Omega.{arith}
use borrow.Author.Tests.{leb-false}
use lib.Dec.{leb, ltb}
use lib.ListN.{length, drop}
use lib.Seq.{take_at}
use Rattle.words.specs.Writing.{over}
use Rattle.limits.specs.Limits.{held_prefix, held_changes_at, ticket_room, addition_kind, withdrawal_kind}
use Rattle.format.specs.Book.{Presentation, read}
use Rattle.format.specs.Bytes.{AreBytes}
use Rattle.format.proofs.Readings.{passed, relation_read, read_within}
use Rattle.format.proofs.Additions.{addition_read}
use Rattle.format.proofs.Unique.{relation_lies}
use Rattle.held.specs.Held.{book_in, changes_in, changes_told}
use Rattle.held.specs.Changes.{Change, addition, withdrawal, changed, changed_in}
use Rattle.held.specs.Tickets.{number_of, fields_of, ticket_bytes, count_in, record_in, change_in}
use Rattle.held.specs.Postings.{InBytes, TicketsRead, TicketsSmall, TicketsFit}
use Rattle.held.proofs.Steps.{read_or_refused, taken_of, added, made_first}

-- the count of a ticket
count_read : (changes : ℕ) (change : Change) (buffer : List ℕ) → count_in (over (ticket_bytes changes change) buffer) ≡ changes
count_read changes (addition bytes) buffer = omega arith
count_read changes (withdrawal i) buffer = omega arith

-- its change
change_read : (changes : ℕ) (change : Change) (buffer : List ℕ) → change_in (over (ticket_bytes changes change) buffer) ≡ change
unfolding change_in record_in
change_read changes (addition bytes) buffer =
    let n = length bytes % 256 + 256 * (length bytes / 256) in
    ap addition (take_at bytes (drop (length (ticket_bytes changes (addition bytes))) buffer) n (omega arith))
change_read changes (withdrawal i) buffer = ap withdrawal (omega arith)

-- both, whatever the numbers are: the definitions have a second byte without a limit
pub ticket_back : (changes : ℕ) (change : Change) (buffer : List ℕ)
    → (count_in (over (ticket_bytes changes change) buffer) ≡ changes) × (change_in (over (ticket_bytes changes change) buffer) ≡ change)
ticket_back changes change buffer = (count_read changes change buffer, change_read changes change buffer)

-- the fields of a ticket are bytes, where their numbers are small
fields_bytes : (changes kind number : ℕ) (rest : List ℕ) → changes < 65536 → kind < 65536 → number < 65536 → AreBytes rest
    → AreBytes (fields_of changes kind number ++ rest)
fields_bytes changes kind number rest h k l are zero = omega arith
fields_bytes changes kind number rest h k l are (suc zero) = omega arith
fields_bytes changes kind number rest h k l are (suc (suc zero)) = omega arith
fields_bytes changes kind number rest h k l are (suc (suc (suc zero))) = omega arith
fields_bytes changes kind number rest h k l are (suc (suc (suc (suc zero)))) = omega arith
fields_bytes changes kind number rest h k l are (suc (suc (suc (suc (suc zero))))) = omega arith
fields_bytes changes kind number rest h k l are (suc (suc (suc (suc (suc (suc i)))))) = are i

ticket_in_bytes : (changes : ℕ) (change : Change) → changes < 65536 → number_of change < 65536 → InBytes change → AreBytes (ticket_bytes changes change)
ticket_in_bytes changes (addition bytes) h k are = fields_bytes changes addition_kind (length bytes) bytes h (omega arith) k are
ticket_in_bytes changes (withdrawal i) h k are = fields_bytes changes withdrawal_kind i [] h (omega arith) k (λ j. omega arith)

pub tickets_read : TicketsRead
tickets_read changes change buffer h k are = (ticket_in_bytes changes change h k are, count_read changes change buffer, change_read changes change buffer)

-- an addition that is made has few bytes
addition_small : (bytes : List ℕ) (place : ℕ) (presentation after : Presentation) → changed (addition bytes) place presentation ≡ read after
    → length bytes ≤ 134
addition_small bytes place presentation after e =
    let (left, right, to, f, g) = added bytes place presentation after e in
    let letters = presentation.letters in
    let count = length presentation.relations in
    let r = addition_read letters count place bytes left right to f in
    let l = relation_lies letters count place bytes 0 left right to r.0 in
    let w = relation_read letters count place bytes 0 left right to r.0 in
    omega (arith, r.1, l.first, w.left_short, w.right_short)

-- a withdrawal that is made is of a relation that is there
withdrawal_small : (i place : ℕ) (presentation after : Presentation) → changed (withdrawal i) place presentation ≡ read after
    → i < length presentation.relations
withdrawal_small i place presentation after e =
    let (b, f) = passed (leb (length presentation.relations) i) _ _ (read after) (read_or_refused after _) e in
    leb-false (length presentation.relations) i b

-- so the number of a change that is made of what is held is small enough for its field
pub ticket_small : (change : Change) (held : List ℕ) (presentation : Presentation) → changed_in change held ≡ read presentation → number_of change < 65536
ticket_small (addition bytes) held presentation e =
    let (before, t, f) = taken_of (addition bytes) held presentation e in
    let s = addition_small bytes (length (book_in held)) before presentation f in
    omega arith
ticket_small (withdrawal i) held presentation e =
    let (before, t, f) = taken_of (withdrawal i) held presentation e in
    let s = withdrawal_small i (length (book_in held)) before presentation f in
    omega (arith, (read_within (book_in held) before t.is).few_relations)

-- and its ticket fits, whatever the count is
pub ticket_fits : (changes : ℕ) (change : Change) (held : List ℕ) (presentation : Presentation) → changed_in change held ≡ read presentation
    → length (ticket_bytes changes change) ≤ ticket_room
ticket_fits changes (addition bytes) held presentation e =
    let (before, t, f) = taken_of (addition bytes) held presentation e in
    let s = addition_small bytes (length (book_in held)) before presentation f in
    omega arith
ticket_fits changes (withdrawal i) held presentation e = omega arith

pub tickets_fit : TicketsFit
tickets_fit change held room n book cuts changes e =
    let (presentation, o, f) = made_first change held room n book cuts e in
    ticket_fits changes change held presentation o

-- what is told of the count is a field of two bytes, or 0
told_small : (held : List ℕ) → AreBytes held → changes_told held < 65536
unfolding changes_told
told_small held are = go (ltb (length held) held_prefix)
  where
    go : (b : Bool) → cond b 0 (changes_in held) < 65536
    go true = omega arith
    go false = omega (arith, are held_changes_at, are (held_changes_at + 1))

pub tickets_small : TicketsSmall
tickets_small change held room n book cuts are e =
    let (presentation, o, f) = made_first change held room n book cuts e in
    (told_small held are, ticket_small change held presentation o)
