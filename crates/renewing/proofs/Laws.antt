-- The laws of the writing of a new book: a record behind the book that is held, and that book without one of its records.
use Prim.Native.Nat.{ℕ, zero, suc, ◌+◌, ◌-◌, ◌≤◌, ◌<◌}
use mathlib.Core.List.{List, ◌++◌}
use mathlib.Core.Path.{◌≡◌, sym, ap, ◌∙◌}
use native.Mathlib.Omega.{arith}
use native.Mathlib.Numerals.{add-one}
use borrow.Author.Rules.{rules}
use lib.ListN.{length, take, drop, length-append, length-drop}
use lib.Seq.{length-take-le, take_all}
use mir.Syntax.{w64}
use mir.Val.{Fits}
use Rattle.words.specs.Writing.{written}
use Rattle.writing.proofs.Writing.{written_length, written_behind, written_taken}
use Rattle.format.specs.Book.{relation_start}
use Rattle.records.specs.Reads.{Starts}
use Rattle.held.specs.Held.{book_in}
use Rattle.renewing.specs.Making.{Appendable, BookAppended, PartRemovable, PartLeftOut, Removable, RecordLeftOut}

-- two lists written one behind the other, from the start on
module _ (s t d a b : List ℕ) (h : length s + length t ≤ length d) (e : a ≡ written 0 s d) (f : b ≡ written (length s) t a) where
  -- both stand at the start
  both_front : take (length s + length t) b ≡ s ++ t
  both_front =
      let w : b ≡ written 0 (s ++ t) d = f ∙ ap (written (length s) t) e ∙ written_behind 0 s t d (length s) (omega arith) (omega arith) in
      rw (← length-append s t) (written_taken (s ++ t) d b w)

  -- the first keeps the length
  first_long : length a ≡ length d
  first_long = ap length e ∙ written_length 0 s d (omega arith)

  -- both do
  both_long : length b ≡ length d
  both_long = ap length f ∙ written_length (length s) t a (omega (arith, first_long)) ∙ first_long

-- the book that is held, and a record behind it
module _ (held bytes fresh book : List ℕ) (h : Appendable held bytes fresh) (e : book ≡ book_in held) where
  -- the room that it asks for
  append_room : length book + length bytes ≤ length fresh
  append_room = omega (arith, h.room, ap length e)

  -- the book has room at the start
  pub append_first : 0 + length book ≤ length fresh
  append_first = omega (arith, append_room)

  -- its bytes and the record's are a number of the machine
  pub append_counted : Fits w64 (length fresh) → Fits w64 (length book + length bytes)
  append_counted l = omega (arith, append_room)

  module _ (a : List ℕ) (f : a ≡ written 0 book fresh) where
    -- the record has room behind it
    pub append_second : length book + length bytes ≤ length a
    append_second = omega (arith, append_room, ap length f, written_length 0 book fresh append_first)

    -- both are written
    pub append_made : (b : List ℕ) → b ≡ written (length book) bytes a → BookAppended held bytes fresh (length book + length bytes) b
    append_made b g =
        record {
          count = ap (λ (s : List ℕ). length s + length bytes) e;
          front = both_front book bytes fresh a b append_room f g ∙ ap (λ (s : List ℕ). s ++ bytes) e;
          long = both_long book bytes fresh a b append_room f g;
        }

pub ruleset appends = (append_first, append_counted, append_second, append_made, rules)

-- a book without a part
module _ (book : List ℕ) (from to : ℕ) (fresh : List ℕ) (h : PartRemovable book from to fresh) where
  -- the bytes before the part
  pub part_front : from ≡ length (take from book)
  part_front = sym (length-take-le from book (omega arith))

  -- those behind it
  part_back : take (length book - to) (drop to book) ≡ drop to book
  part_back = take_all (length book - to) (drop to book) (omega (arith, length-drop to book))

  -- all of them are a number of the machine
  pub part_counted : Fits w64 (length fresh) → Fits w64 (from + (length book - to))
  part_counted l = omega arith

  -- those before it have room at the start
  pub part_first : 0 + length (take from book) ≤ length fresh
  part_first = omega (arith, part_front)

  module _ (a : List ℕ) (p : a ≡ written 0 (take from book) fresh) where
    -- those behind it have room behind them
    pub part_second : from + length (take (length book - to) (drop to book)) ≤ length a
    part_second = omega (arith, ap length part_back, length-drop to book, ap length p, written_length 0 (take from book) fresh part_first)

    -- both are written
    pub part_made : (b : List ℕ) → b ≡ written from (take (length book - to) (drop to book)) a → PartLeftOut book from to fresh (from + (length book - to)) b
    part_made b q =
        let l = length-drop to book in
        let r : length (take from book) + length (drop to book) ≤ length fresh = omega (arith, part_front) in
        let w : b ≡ written (length (take from book)) (drop to book) a =
        q ∙ ap (λ (s : List ℕ). written from s a) part_back ∙ ap (λ (n : ℕ). written n (drop to book) a) part_front in
        let n : from + (length book - to) ≡ length (take from book) + length (drop to book) = omega (arith, part_front) in
        record {
          count = omega arith;
          front = ap (λ (m : ℕ). take m b) n ∙ both_front (take from book) (drop to book) fresh a b r p w;
          long = both_long (take from book) (drop to book) fresh a b r p w;
        }

pub ruleset parts = (part_front, part_counted, part_first, part_second, part_made, rules)

-- there are no more relations before a record than bytes
start_after : (book : List ℕ) (k : ℕ) → k < relation_start book k
unfolding relation_start
start_after book zero = omega arith
start_after book (suc k) = omega (arith, start_after book k)

-- a record begins no later than the next
start_next : (book : List ℕ) (k : ℕ) → relation_start book k ≤ relation_start book (k + 1)
unfolding relation_start
start_next book k = rw (add-one k) (omega arith)

-- the book that is held without the record of relation i
module _ (held : List ℕ) (i : ℕ) (fresh book : List ℕ) (h : Removable held i fresh) (e : book ≡ book_in held) where
  -- the records lie in it, up to that of the next relation
  pub leave_starts_next : Starts book (i + 1)
  leave_starts_next = rw e h.starts

  -- and up to its own
  pub leave_starts : Starts book i
  leave_starts =
      let s = leave_starts_next in
      record { inside = λ k l. s.inside k (omega arith); ends = λ k l. s.ends k (omega arith) }

  -- its room
  leave_room : length book ≤ length fresh
  leave_room = omega (arith, h.room, ap length e)

  -- the index of the next is a number of the machine
  pub leave_counted : Fits w64 (length fresh) → Fits w64 (i + 1)
  leave_counted l = omega (arith, leave_room, start_after book i, leave_starts.ends i (omega arith))

  module _ (from to : ℕ) (f : from ≡ relation_start book i) (g : to ≡ relation_start book (i + 1)) where
    -- the record is a part of it
    pub leave_part : PartRemovable book from to fresh
    leave_part =
        record { order = omega (arith, start_next book i); inside = omega (arith, leave_starts_next.ends (i + 1) (omega arith)); room = leave_room }

    -- without that part it is without the record
    pub leave_made : (n : ℕ) (fresh' : List ℕ) → PartLeftOut book from to fresh n fresh' → RecordLeftOut held i fresh n fresh'
    leave_made n fresh' p = record { count = omega (arith, p.count, ap length e); front = p.front ∙ rw (f, g, e); long = p.long }

pub ruleset leaves = (leave_starts_next, leave_starts, leave_counted, leave_part, leave_made, rules)
