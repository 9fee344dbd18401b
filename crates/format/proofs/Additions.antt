-- A relation that is given apart from its book is read as if its bytes stood at the book's end: records keep their readings when bytes come before or behind them.
use Prim.Native.Nat.{ℕ, zero, suc, ◌+◌, ◌-◌, ◌≤◌, ◌<◌}
use mathlib.Core.Bool.{Bool, true, false, cond}
use mathlib.Core.List.{List, [], ◌∷◌, ◌++◌, append-nil}
use mathlib.Core.Path.{◌≡◌, refl, sym, ap, ◌∙◌}
use native.Mathlib.Omega.{arith}
use lib.Dec.{leb, ltb}
use lib.ListN.{length, drop, length-append, get_or-append, length-drop, drop_of_length-le}
use lib.Seq.{get_or-append-add, drop-append-add, drop-append-le, take-append-le, take-append_seam}
use borrow.Author.Tests.{lt-ltb, le-ltb, le-leb, lt-leb, ltb-true, ltb-false, leb-true, leb-false}
use Rattle.std.specs.Prelude.{Option, Some, None, Result, Ok, Err}
use Rattle.words.specs.Words.{part}
use Rattle.words.specs.Relations.{Relation}
use Rattle.limits.specs.declared.Record.{Record}
use Rattle.limits.specs.Limits.{relation_kind, relations_most}
use Rattle.refusals.specs.declared.Refusal.{Refusal}
use Rattle.refusals.specs.declared.Refusal.TheVariants.{Short, Length}
use Rattle.format.specs.declared.HeadFields.{HeadFields}
use Rattle.format.specs.declared.RelationFields.{RelationFields}
use Rattle.format.specs.Book.{Presentation, BookReading, adding, without, read, refused, byte, field, record_at, differs, head_at, fields_at, relation_at, addition_at, relation_in, on_head, on_relation, relations_from, read_book}
use Rattle.format.specs.Bytes.{relation_bytes, RelationWithin, AreBytes, AdditionsRead}
use Rattle.format.proofs.Readings.{passed, relation_or_refused, passed_whole, whole_at, relation_read, relation_within, fuel_suffices}
use Rattle.format.proofs.Unique.{relation_lies, head_lies, relation_bytes_lem}

-- a relation by its fields, where the checks before them pass
relation_of_fields : (letters count place : ℕ) (book : List ℕ) (at kind from to : ℕ) (o : Result RelationFields Refusal) → record_at book at ≡ Some (record { kind = kind; from = from; to = to })
    → differs kind 2 ≡ false → leb 32 count ≡ false → fields_at letters place book from to ≡ o → relation_at letters count place book at ≡ o
unfolding relation_at
relation_of_fields letters count place book at kind from to o w k c f = rw (w, k, c) f

-- an addition that was read is a relation that was read, and nothing lies behind its record
pub addition_read : (letters count place : ℕ) (bytes : List ℕ) (left right to : ℕ) → addition_at letters count place bytes ≡ Ok (record { left = left; right = right; end = to })
    → (relation_at letters count place bytes 0 ≡ Ok (record { left = left; right = right; end = to })) × (to ≡ length bytes)
unfolding addition_at
addition_read letters count place bytes left right to e =
    let other = relation_or_refused left right to in
    let a = passed_whole (record_at bytes 0) _ _ _ (other _) e in
    let w = whole_at bytes 0 a.0 a.1 a.2 a.3 in
    let b = passed (differs a.0 2) _ _ _ (other _) a.4 in
    let c = passed (leb 32 count) _ _ _ (other _) b.1 in
    let d = passed (ltb a.2 (length bytes)) _ _ _ (other _) c.1 in
    let f = ltb-false a.2 (length bytes) d.0 in
    let g = relation_of_fields letters count place bytes 0 a.0 a.1 a.2 (Ok (record { left = left; right = right; end = to })) a.3 b.0 c.0 d.1 in
    let l = relation_lies letters count place bytes 0 left right to g in
    (g, omega (arith, w.end, w.fits, l.size))

module _ (letters count place : ℕ) (bytes : List ℕ) (left right to : ℕ) where
  -- its bytes are those of what was read
  pub addition_bytes : AreBytes bytes → addition_at letters count place bytes ≡ Ok (record { left = left; right = right; end = to }) → bytes ≡ relation_bytes (relation_in bytes left right to)
  addition_bytes are e =
      let r = addition_read letters count place bytes left right to e in
      let b = relation_bytes_lem letters count place bytes 0 left right to are (relation_lies letters count place bytes 0 left right to r.0) in
      let h : length bytes ≤ to = omega (arith, r.1) in
      b ∙ rw (drop_of_length-le bytes h) (append-nil (relation_bytes (relation_in bytes left right to)))

  -- it is within the limits
  pub addition_within : addition_at letters count place bytes ≡ Ok (record { left = left; right = right; end = to }) → RelationWithin letters (relation_in bytes left right to)
  addition_within e =
      let r = addition_read letters count place bytes left right to e in
      relation_within letters count bytes 0 left right to (relation_read letters count place bytes 0 left right to r.0)

  -- and there is room for it
  pub addition_few : addition_at letters count place bytes ≡ Ok (record { left = left; right = right; end = to }) → count < relations_most
  addition_few e =
      let r = addition_read letters count place bytes left right to e in
      (relation_read letters count place bytes 0 left right to r.0).room

-- where nothing lies behind its record, it is read as any relation
addition_same : (letters count place : ℕ) (bytes : List ℕ) → ((kind from to : ℕ) → record_at bytes 0 ≡ Some (record { kind = kind; from = from; to = to }) → to ≡ length bytes)
    → addition_at letters count place bytes ≡ relation_at letters count place bytes 0
unfolding addition_at relation_at
addition_same letters count place bytes f = go (record_at bytes 0) refl
  where
    go : (o : Option Record) → record_at bytes 0 ≡ o → addition_at letters count place bytes ≡ relation_at letters count place bytes 0
    go None q = rw q
    go (Some whole) q = let e = f whole.kind whole.from whole.to q in rw (q, le-ltb whole.to (length bytes) (omega arith))

-- a record, and what is read of it, so many places further on
abbrev moved_record : ℕ → Option Record → Option Record
moved_record n None = None
moved_record n (Some whole) = Some (record { kind = whole.kind; from = n + whole.from; to = n + whole.to })

abbrev moved : ℕ → Result RelationFields Refusal → Result RelationFields Refusal
moved n (Err r) = Err r
moved n (Ok fields) = Ok (record { left = n + fields.left; right = n + fields.right; end = n + fields.end })

moved_cond : (n : ℕ) (b : Bool) (x y : Result RelationFields Refusal) → moved n (cond b x y) ≡ cond b (moved n x) (moved n y)
moved_cond n true x y = refl
moved_cond n false x y = refl

-- bytes in front move a record, and change nothing else
module _ (pre s : List ℕ) where
  byte_moved : (i j : ℕ) → j ≡ length pre + i → byte (pre ++ s) j ≡ byte s i
  byte_moved i j e = rw e (get_or-append-add pre s i 0)

  field_moved : (i j : ℕ) → j ≡ length pre + i → field (pre ++ s) j ≡ field s i
  field_moved i j e = rw (byte_moved i j e, byte_moved (i + 1) (j + 1) (omega arith))

  part_moved : (a b i j : ℕ) → i ≡ length pre + a → j ≡ length pre + b → part (pre ++ s) i j ≡ part s a b
  part_moved a b i j e f =
      let z : length pre + b - (length pre + a) ≡ b - a = omega arith in
      rw (e, f, z, drop-append-add pre s a)

  record_moved : (at : ℕ) → record_at (pre ++ s) (length pre + at) ≡ moved_record (length pre) (record_at s at)
  unfolding record_at
  record_moved at = go (ltb (length s) (at + 4)) (ltb (length s) (at + 4 + field s at)) refl refl
    where
      go : (b c : Bool) → ltb (length s) (at + 4) ≡ b → ltb (length s) (at + 4 + field s at) ≡ c
          → record_at (pre ++ s) (length pre + at) ≡ moved_record (length pre) (record_at s at)
      go true c p q =
          let l = length-append pre s in
          let h = ltb-true (length s) (at + 4) p in
          rw (p, lt-ltb (length (pre ++ s)) (length pre + at + 4) (omega arith))
      go false true p q =
          let l = length-append pre s in
          let g = ltb-false (length s) (at + 4) p in
          let h = ltb-true (length s) (at + 4 + field s at) q in
          rw (
            p,
            q,
            field_moved at (length pre + at) refl,
            le-ltb (length (pre ++ s)) (length pre + at + 4) (omega arith),
            lt-ltb (length (pre ++ s)) (length pre + at + 4 + field s at) (omega arith),
          )
      go false false p q =
          let l = length-append pre s in
          let g = ltb-false (length s) (at + 4) p in
          let h = ltb-false (length s) (at + 4 + field s at) q in
          let x : length pre + at + 4 ≡ length pre + (at + 4) = omega arith in
          let y : length pre + at + 4 + field s at ≡ length pre + (at + 4 + field s at) = omega arith in
          rw (
            p,
            q,
            field_moved at (length pre + at) refl,
            field_moved (at + 2) (length pre + at + 2) (omega arith),
            le-ltb (length (pre ++ s)) (length pre + at + 4) (omega arith),
            le-ltb (length (pre ++ s)) (length pre + at + 4 + field s at) (omega arith),
          )
          (cc (x, y))

  fields_moved : (letters place from to : ℕ) → fields_at letters place (pre ++ s) (length pre + from) (length pre + to) ≡ moved (length pre) (fields_at letters place s from to)
  unfolding fields_at
  fields_moved letters place from to =
      let z : length pre + to - (length pre + from) ≡ to - from = omega arith in
      let x : length pre + from + 2 ≡ length pre + (from + 2) = omega arith in
      let y : length pre + (from + 2) + byte s from ≡ length pre + (from + 2 + byte s from) = omega arith in
      rw (
        z,
        byte_moved from (length pre + from) refl,
        byte_moved (from + 1) (length pre + from + 1) (omega arith),
        part_moved (from + 2) to (length pre + from + 2) (length pre + to) (omega arith) refl,
        x,
        y,
      )
      (simp moved_cond)

  relation_moved : (letters count place at : ℕ) → relation_at letters count place (pre ++ s) (length pre + at) ≡ moved (length pre) (relation_at letters count place s at)
  unfolding relation_at
  relation_moved letters count place at = go (record_at s at) refl
    where
      go : (o : Option Record) → record_at s at ≡ o → relation_at letters count place (pre ++ s) (length pre + at) ≡ moved (length pre) (relation_at letters count place s at)
      go None q = rw (record_moved at, q)
      go (Some whole) q = rw (record_moved at, q, fields_moved letters place whole.from whole.to) (simp moved_cond)

-- bytes behind a record change nothing
module _ (s t : List ℕ) where
  byte_stays : (i : ℕ) → i < length s → byte (s ++ t) i ≡ byte s i
  byte_stays i h = get_or-append s t 0 i h

  field_stays : (i : ℕ) → i + 1 < length s → field (s ++ t) i ≡ field s i
  field_stays i h = rw (byte_stays i (omega arith), byte_stays (i + 1) h)

  part_stays : (a b : ℕ) → a ≤ b → b ≤ length s → part (s ++ t) a b ≡ part s a b
  part_stays a b h k = rw (drop-append-le a s t (omega arith)) (take-append-le (b - a) (drop a s) t (omega (arith, length-drop a s)))

  relation_stays_in : (left right to : ℕ) → left ≤ right → right ≤ to → to ≤ length s → relation_in (s ++ t) left right to ≡ relation_in s left right to
  relation_stays_in left right to h k l = rw (part_stays left right h (omega arith), part_stays right to k l)

  record_stays : (at kind from to : ℕ) → record_at s at ≡ Some (record { kind = kind; from = from; to = to }) → record_at (s ++ t) at ≡ Some (record { kind = kind; from = from; to = to })
  unfolding record_at
  record_stays at kind from to e =
      let w = whole_at s at kind from to e in
      let l = length-append s t in
      let x : field s (at + 2) ≡ kind = omega (arith, w.kinds) in
      let y : at + 4 ≡ from = omega (arith, w.start) in
      let z : at + 4 + field s at ≡ to = omega (arith, w.end) in
      let f = w.fits in
      rw (
        field_stays at (omega arith),
        field_stays (at + 2) (omega arith),
        le-ltb (length (s ++ t)) (at + 4) (omega arith),
        le-ltb (length (s ++ t)) (at + 4 + field s at) (omega arith),
      )
      (cc (x, y, z))

  fields_stay : (letters place from to : ℕ) → from + 2 ≤ to → to ≤ length s → fields_at letters place (s ++ t) from to ≡ fields_at letters place s from to
  unfolding fields_at
  fields_stay letters place from to h k = rw (byte_stays from (omega arith), byte_stays (from + 1) (omega arith), part_stays (from + 2) to h k)

  relation_stays : (letters count place at left right to : ℕ) → relation_at letters count place s at ≡ Ok (record { left = left; right = right; end = to })
      → relation_at letters count place (s ++ t) at ≡ Ok (record { left = left; right = right; end = to })
  relation_stays letters count place at left right to e =
      let l = relation_lies letters count place s at left right to e in
      let h = l.end in
      let c = lt-leb 32 count l.room in
      relation_of_fields letters count place (s ++ t) at 2 (at + 4) to (Ok (record { left = left; right = right; end = to })) (record_stays at 2 (at + 4) to l.whole) refl c
      (fields_stay letters place (at + 4) to (omega arith) l.fits ∙ l.fields)

  head_stays : (most place letters to : ℕ) → head_at most place s 0 ≡ Ok (record { letters = letters; end = to }) → head_at most place (s ++ t) 0 ≡ Ok (record { letters = letters; end = to })
  unfolding head_at
  head_stays most place letters to e =
      let l = head_lies most place s letters to e in
      let f = l.fits in
      rw (record_stays 0 1 4 5 l.whole, byte_stays 4 (omega arith)) (rw l.whole at e)

-- where nothing is left, what was read is all
all_read : (fuel : ℕ) (presentation : Presentation) (book : List ℕ) (at : ℕ) → length book ≤ at → relations_from fuel presentation book at ≡ read presentation
unfolding relations_from
all_read zero presentation book at h = refl
all_read (suc fuel) presentation book at h = rw (le-leb (length book) at h)

-- where something is, the next relation is read
one_read : (fuel : ℕ) (presentation : Presentation) (book : List ℕ) (at : ℕ) (o : Result RelationFields Refusal) → at < length book
    → relation_at presentation.letters (length presentation.relations) at book at ≡ o
    → relations_from (suc fuel) presentation book at ≡ on_relation o (λ left right to. relations_from fuel (adding presentation (relation_in book left right to)) book to)
unfolding relations_from
one_read fuel presentation book at o h e = rw (lt-leb (length book) at h, e)

-- a book that is all read, with bytes behind it
end_stays : (larger : ℕ) (presentation : Presentation) (book bytes : List ℕ) (at : ℕ) (last : Presentation) → at ≡ length book
    → length book + length bytes ≤ at + larger → read presentation ≡ read last
    → relations_from larger presentation (book ++ bytes) at ≡ relations_from (length bytes) last (book ++ bytes) (length book)
end_stays larger presentation book bytes at last h m e =
    let x : presentation ≡ last = cc in
    let f = fuel_suffices (length bytes) larger last (book ++ bytes) (length book) (omega (arith, length-append book bytes)) (omega arith) in
    rw (x, h) f

-- one step of reading a book with bytes behind it
step_stays : (larger : ℕ) (presentation : Presentation) (book bytes : List ℕ) (at left right to : ℕ) (o : BookReading) → at < length book
    → length book + length bytes ≤ at + larger → relation_at presentation.letters (length presentation.relations) at book at ≡ Ok (record { left = left; right = right; end = to })
    → ((larger : ℕ) → length book + length bytes ≤ to + larger → relations_from larger (adding presentation (relation_in book left right to)) (book ++ bytes) to ≡ o)
    → relations_from larger presentation (book ++ bytes) at ≡ o
step_stays zero presentation book bytes at left right to o h m e f = absurd (omega arith)
step_stays (suc larger) presentation book bytes at left right to o h m e f =
    let letters = presentation.letters in
    let count = length presentation.relations in
    let l = relation_lies letters count at book at left right to e in
    let a = relation_stays book bytes letters count at at left right to e in
    let b = relation_stays_in book bytes left right to (omega arith) (omega arith) l.fits in
    one_read larger presentation (book ++ bytes) at (Ok (record { left = left; right = right; end = to })) (omega (arith, length-append book bytes)) a ∙ rw b (f larger (omega arith))

-- a book that is read, with bytes behind it: what is left to read are those
from_stays : (fuel larger : ℕ) (presentation : Presentation) (book bytes : List ℕ) (at : ℕ) (last : Presentation) → at ≤ length book → length book ≤ at + fuel
    → length book + length bytes ≤ at + larger → relations_from fuel presentation book at ≡ read last
    → relations_from larger presentation (book ++ bytes) at ≡ relations_from (length bytes) last (book ++ bytes) (length book)
unfolding relations_from
from_stays zero larger presentation book bytes at last h k m e = end_stays larger presentation book bytes at last (omega arith) m e
from_stays (suc fuel) larger presentation book bytes at last h k m e =
    go (leb (length book) at) (relation_at presentation.letters (length presentation.relations) at book at) refl refl e (λ left right to larger.
    from_stays fuel larger (adding presentation (relation_in book left right to)) book bytes to last)
  where
    go : (b : Bool) (o : Result RelationFields Refusal) → leb (length book) at ≡ b → relation_at presentation.letters (length presentation.relations) at book at ≡ o
        → cond b (read presentation) (on_relation o (λ left right to. relations_from fuel (adding presentation (relation_in book left right to)) book to)) ≡ read last
        → ((left right to larger : ℕ) → to ≤ length book → length book ≤ to + fuel → length book + length bytes ≤ to + larger
        → relations_from fuel (adding presentation (relation_in book left right to)) book to ≡ read last
        → relations_from larger (adding presentation (relation_in book left right to)) (book ++ bytes) to ≡ relations_from (length bytes) last (book ++ bytes) (length book))
        → relations_from larger presentation (book ++ bytes) at ≡ relations_from (length bytes) last (book ++ bytes) (length book)
    go true o p q e f = let g = leb-true (length book) at p in end_stays larger presentation book bytes at last (omega arith) m e
    go false (Err x) p q e f = absurd (let z : ◌≡◌ {A = ℕ} 0 1 = cc in omega arith)
    go false (Ok fields) p q e f =
        let l = relation_lies presentation.letters (length presentation.relations) at book at fields.left fields.right fields.end q in
        step_stays larger presentation book bytes at fields.left fields.right fields.end _ (leb-false (length book) at p) m q (λ larger n.
        f fields.left fields.right fields.end larger l.fits (omega arith) n e)

book_stays : (book bytes : List ℕ) (presentation : Presentation) → read_book book ≡ read presentation
    → read_book (book ++ bytes) ≡ relations_from (length bytes) presentation (book ++ bytes) (length book)
unfolding read_book
book_stays book bytes presentation e = go (head_at 64 0 book 0) refl e
  where
    go : (o : Result HeadFields Refusal) → head_at 64 0 book 0 ≡ o
        → on_head o (λ letters to. relations_from (length book) (record { letters = letters; relations = [] }) book to) ≡ read presentation
        → read_book (book ++ bytes) ≡ relations_from (length bytes) presentation (book ++ bytes) (length book)
    go (Err x) q e = absurd (let z : ◌≡◌ {A = ℕ} 0 1 = cc in omega arith)
    go (Ok fields) q e =
        let l = head_lies 64 0 book fields.letters fields.end q in
        rw (head_stays book bytes 64 0 fields.letters fields.end q)
        (from_stays (length book) (length (book ++ bytes)) (record { letters = fields.letters; relations = [] }) book bytes fields.end presentation
        (omega arith) (omega arith) (omega (arith, length-append book bytes)) e)

-- the relation behind the book is read as it is by itself
end_read : (book : List ℕ) (x : ℕ) (xs : List ℕ) (presentation : Presentation) (o : Result RelationFields Refusal)
    → relation_at presentation.letters (length presentation.relations) (length book) (x ∷ xs) 0 ≡ o
    → relations_from (suc (length xs)) presentation (book ++ (x ∷ xs)) (length book)
    ≡ on_relation (moved (length book) o) (λ left right to. relations_from (length xs) (adding presentation (relation_in (book ++ (x ∷ xs)) left right to)) (book ++ (x ∷ xs)) to)
end_read book x xs presentation o e =
    let letters = presentation.letters in
    let count = length presentation.relations in
    let n : length book ≡ length book + 0 = omega arith in
    let a = ap (relation_at letters count (length book) (book ++ (x ∷ xs))) n in
    one_read (length xs) presentation (book ++ (x ∷ xs)) (length book) (moved (length book) o) (omega (arith, length-append book (x ∷ xs)))
    (a ∙ relation_moved book (x ∷ xs) letters count (length book) 0 ∙ ap (moved (length book)) e)

-- what is read is the next relation
next_read : (book bytes : List ℕ) (presentation : Presentation) (left right to : ℕ) → read_book book ≡ read presentation
    → addition_at presentation.letters (length presentation.relations) (length book) bytes ≡ Ok (record { left = left; right = right; end = to })
    → read_book (book ++ bytes) ≡ read (adding presentation (relation_in bytes left right to))
next_read book [] presentation left right to e f =
    let r = addition_read presentation.letters (length presentation.relations) (length book) [] left right to f in
    let l = relation_lies presentation.letters (length presentation.relations) (length book) [] 0 left right to r.0 in
    absurd (omega (arith, l.end, l.fits))
next_read book (x ∷ xs) presentation left right to e f =
    let bytes = x ∷ xs in
    let n = length book in
    let r = addition_read presentation.letters (length presentation.relations) n bytes left right to f in
    let a = part_moved book bytes left right (n + left) (n + right) refl refl in
    let b = part_moved book bytes right to (n + right) (n + to) refl refl in
    let c : relation_in (book ++ bytes) (n + left) (n + right) (n + to) ≡ relation_in bytes left right to = rw (a, b) in
    let d = all_read (length xs) (adding presentation (relation_in (book ++ bytes) (n + left) (n + right) (n + to))) (book ++ bytes) (n + to)
    (omega (arith, length-append book bytes, r.1)) in
    book_stays book bytes presentation e ∙ end_read book x xs presentation (Ok (record { left = left; right = right; end = to })) r.0 ∙ d ∙ ap (λ (t : Relation). read (adding presentation t)) c

-- what is refused is refused there
next_refused : (book bytes : List ℕ) (presentation : Presentation) (r : Refusal) → read_book book ≡ read presentation
    → addition_at presentation.letters (length presentation.relations) (length book) bytes ≡ Err r
    → 1 ≤ length bytes → ((kind from to : ℕ) → record_at bytes 0 ≡ Some (record { kind = kind; from = from; to = to }) → to ≡ length bytes)
    → read_book (book ++ bytes) ≡ refused r
next_refused book [] presentation r e f h k = absurd (omega arith)
next_refused book (x ∷ xs) presentation r e f h k =
    let s = addition_same presentation.letters (length presentation.relations) (length book) (x ∷ xs) k in
    book_stays book (x ∷ xs) presentation e ∙ end_read book x xs presentation (Err r) (sym s ∙ f)

-- bytes behind a relation's record are 3
addition_behind : (letters count place : ℕ) (bytes : List ℕ) (from to : ℕ) → record_at bytes 0 ≡ Some (record { kind = relation_kind; from = from; to = to }) → count < relations_most → to < length bytes
    → addition_at letters count place bytes ≡ Err (Length place)
unfolding addition_at
addition_behind letters count place bytes from to w h l = rw (w, lt-leb 32 count h, lt-ltb to (length bytes) l)

-- no bytes are 1
addition_none : (letters count place : ℕ) → addition_at letters count place [] ≡ Err (Short place)
unfolding addition_at record_at
addition_none letters count place = refl

pub additions_read : AdditionsRead
additions_read = record { next = next_read; refuses = next_refused; none = addition_none; behind = addition_behind }

-- the relation that was added last, taken away again
pub without_last : (presentation : Presentation) (r : Relation) → without (adding presentation r) (length presentation.relations) ≡ presentation
without_last presentation r =
    let rs = presentation.relations in
    let l = length-append rs (r ∷ []) in
    let h : length (rs ++ (r ∷ [])) ≤ suc (length rs) = omega arith in
    rw (take-append_seam rs (r ∷ []), drop_of_length-le (rs ++ (r ∷ [])) h, append-nil)
