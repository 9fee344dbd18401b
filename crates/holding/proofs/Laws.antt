-- The laws of a held book in its buffer: where its book lies, what taking it up gives, and three writings that are one.
use Prim.Native.Nat.{ℕ, ◌+◌, ◌-◌, ◌/◌, ◌%◌, ◌≤◌, ◌<◌, min}
use mathlib.Core.List.{List, [], ◌∷◌, ◌++◌}
use mathlib.Core.Path.{◌≡◌, sym, ap, ◌∙◌}
use mathlib.Core.Logic.{by_cases}
use native.Mathlib.Omega.{arith}
use native.Mathlib.Decide.{dec_le}
use borrow.Author.Rules.{rules}
use borrow.Author.Tests.{lt-ltb, le-ltb}
use lib.ListN.{length, take, drop, set, length-set, length-take, length-drop, take-append-drop, drop_of_length-le}
use lib.Seq.{take-append_seam}
use mir.Syntax.{w64}
use mir.Val.{Fits}
use Rattle.std.specs.Prelude.{Result, Err}
use Rattle.words.specs.Writing.{written}
use Rattle.writing.proofs.Writing.{written_length, written_zero, written_behind, written_one}
use Rattle.limits.specs.Limits.{held_length_at, held_changes_at, held_prefix, held_room, held_buffer}
use Rattle.refusals.specs.declared.Refusal.{Refusal}
use Rattle.refusals.specs.declared.Refusal.TheVariants.{Narrow}
use Rattle.format.specs.declared.BookSize.{BookSize}
use Rattle.format.specs.Book.{field, read_book, reading_of}
use Rattle.format.specs.Bytes.{field_bytes}
use Rattle.held.specs.Held.{book_in, book_start, changes_told, holding, taken_up}
use Rattle.holding.specs.Held.{Holdable}

-- a field is stored byte by byte
module _ (x at : ℕ) (d : List ℕ) (h : at + 2 ≤ length d) where
  -- the first byte leaves room for the second
  pub field_room : at + 1 < length (set d at (x % 256))
  field_room = omega (arith, length-set d at (x % 256))

  -- both are the field
  pub field_put : set (set d at (x % 256)) (at + 1) (x / 256) ≡ written at (field_bytes x) d
  field_put =
      let l = written_length at (x % 256 ∷ []) d (omega arith) in
      ap (λ (b : List ℕ). set b (at + 1) (x / 256)) (written_one at (x % 256) d (omega arith))
      ∙ written_one (at + 1) (x / 256) (written at (x % 256 ∷ []) d) (omega arith)
      ∙ written_behind at (x % 256 ∷ []) (x / 256 ∷ []) d (at + 1) (omega arith) (omega arith)

pub ruleset fields = (field_room, field_put, rules)

-- the number of bytes of the book that is held
module _ (held : List ℕ) where
  -- it is what the length says, as far as the buffer has them
  book_long : length (book_in held) ≡ min (field held held_length_at) (length held - held_prefix)
  unfolding book_in
  book_long = length-take (field held held_length_at) (drop held_prefix held) ∙ ap (min (field held held_length_at)) (length-drop held_prefix held)

  -- a buffer shorter than its two fields holds no book
  pub book_none : length held < held_prefix → 0 ≡ length (book_in held)
  book_none h = omega (arith, book_long)

  -- a longer one holds as much as the code finds
  pub book_some : (n r : ℕ) → n ≡ field held held_length_at → r ≡ min n (length held - held_prefix) → r ≡ length (book_in held)
  book_some n r e f = f ∙ ap (λ (m : ℕ). min m (length held - held_prefix)) e ∙ sym book_long

  -- what is told of the count of changes
  pub told_none : length held < held_prefix → 0 ≡ changes_told held
  unfolding changes_told
  told_none h = rw (lt-ltb (length held) held_prefix h)

  pub told_some : (r : ℕ) → held_prefix ≤ length held → r ≡ field held held_changes_at → r ≡ changes_told held
  unfolding changes_told
  told_some r h e = rw (le-ltb (length held) held_prefix h) e

pub ruleset lengths = (book_none, book_some, told_none, told_some, rules)

-- a front of a list by its own length
front_own : (n : ℕ) (l : List ℕ) → take (length (take n l)) l ≡ take n l
front_own n l = ap (take (length (take n l))) (sym (take-append-drop n l)) ∙ take-append_seam (take n l) (drop n l)

-- so many elements behind a place, as far as they are there, as a part of a list
module _ (l : List ℕ) (place many start n : ℕ) (e : start ≡ min place (length l)) (f : n ≡ length (take many (drop place l))) where
  -- what lies behind the place begins at the part's start, also where there is nothing
  part_behind : drop start l ≡ drop place l
  part_behind =
      by_cases (dec_le place (length l))
      (λ h. let s : start ≡ place = omega arith in rw s)
      (λ h. drop_of_length-le l {i = start} (omega arith) ∙ sym (drop_of_length-le l {i = place} (omega arith)))

  pub part_whole : take (start + n - start) (drop start l) ≡ take many (drop place l)
  part_whole =
      let z : start + n - start ≡ n = omega arith in
      rw (z, part_behind, f) (front_own many (drop place l))

-- the book that is held as a part of its buffer
module _ (held : List ℕ) (start n : ℕ) (e : start ≡ book_start held) (f : n ≡ length (book_in held)) where
  -- it ends in the buffer
  pub book_fits : start + n ≤ length held
  book_fits = omega (arith, book_long held)

  -- its end is a number of the machine
  pub book_counted : Fits w64 (length held) → Fits w64 (start + n)
  book_counted h = omega (arith, book_fits)

  -- the part is the book
  pub book_part : take (start + n - start) (drop start held) ≡ book_in held
  unfolding book_in
  book_part = part_whole held held_prefix (field held held_length_at) start n e f

pub ruleset parts = (book_fits, book_counted, book_part, rules)

-- what reading the book that is held gives
pub kept_read : (held book : List ℕ) (r : Result BookSize Refusal) → book ≡ book_in held → r ≡ reading_of (read_book book) → r ≡ reading_of (read_book (book_in held))
kept_read held book r e f = f ∙ ap (λ (s : List ℕ). reading_of (read_book s)) e

pub ruleset readings = (kept_read, rules)

-- what a change finds
module _ (held : List ℕ) where
  -- the buffer is below the room of a held book
  pub taken_narrow : length held < held_room → Err (Narrow held_buffer) ≡ reading_of (taken_up held)
  unfolding taken_up
  taken_narrow h = rw (lt-ltb (length held) held_room h)

  -- it has the room, and reading decides
  pub taken_read : (r : Result BookSize Refusal) → r ≡ reading_of (read_book (book_in held)) → held_room ≤ length held → r ≡ reading_of (taken_up held)
  unfolding taken_up
  taken_read r e h = rw (le-ltb (length held) held_room h) e

pub ruleset takings = (taken_narrow, taken_read, rules)

-- the two fields and the book, written one behind the other, are a held book
module _ (book held : List ℕ) (changes : ℕ) (h : Holdable book changes held) (n c : ℕ) (e : n ≡ length book) (f : c ≡ changes) where
  -- the two fields
  fields_both : (a b : List ℕ) → a ≡ written held_length_at (field_bytes n) held → b ≡ written held_changes_at (field_bytes c) a
      → b ≡ written held_length_at (field_bytes (length book) ++ field_bytes changes) held
  fields_both a b p q =
      q ∙ rw (p, e, f)
      (written_behind held_length_at (field_bytes (length book)) (field_bytes changes) held held_changes_at (omega arith) (omega (arith, h.room)))

  -- and the book
  pub held_whole : (a b d : List ℕ) → a ≡ written held_length_at (field_bytes n) held → b ≡ written held_changes_at (field_bytes c) a
      → d ≡ written held_prefix book b → d ≡ holding changes book held
  unfolding holding
  held_whole a b d p q r =
      r ∙ ap (written held_prefix book) (fields_both a b p q)
      ∙ written_behind held_length_at (field_bytes (length book) ++ field_bytes changes) book held held_prefix (omega arith) (omega (arith, h.room))
      ∙ written_zero ((field_bytes (length book) ++ field_bytes changes) ++ book) held

pub ruleset holds = (held_whole, rules)
