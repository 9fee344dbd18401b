-- What a change makes of a held book: the bytes that are written are those of the changed presentation.
use Prim.Native.Nat.{ℕ, ◌+◌, ◌≤◌, ◌<◌}
use mathlib.Core.List.{List, ◌++◌}
use mathlib.Core.Path.{◌≡◌, refl, sym, ap, subst, ◌∙◌}
use native.Mathlib.Omega.{arith}
use borrow.Author.Rules.{rules}
use borrow.Author.Tests.{ltb-false, le-leb, lt-leb}
use lib.Dec.{ltb}
use lib.ListN.{length, get_or, take, drop, length-append}
use mir.Syntax.{w8}
use mir.Val.{Fits}
use Rattle.std.specs.Prelude.{Result, Ok, Err}
use Rattle.limits.specs.Limits.{book_most, held_room}
use Rattle.refusals.specs.declared.Refusal.{Refusal}
use Rattle.refusals.specs.declared.Refusal.TheVariants.{NoSuchRelation}
use Rattle.format.specs.declared.BookSize.{BookSize}
use Rattle.format.specs.declared.RelationFields.{RelationFields}
use Rattle.format.specs.Book.{Presentation, adding, without, BookReading, read, refused, addition_at, relation_start, relation_in, read_book, reading_of}
use Rattle.format.specs.Bytes.{book_bytes, Within, AreBytes}
use Rattle.format.proofs.Readings.{passed, read_within}
use Rattle.format.proofs.Unique.{bytes_unique, adding_bytes, starts_inside, starts_end, without_bytes, without_within, adding_within}
use Rattle.format.proofs.Lengths.{bytes_few}
use Rattle.format.proofs.Additions.{addition_bytes, addition_within, addition_few}
use Rattle.held.specs.declared.Asked.{Asked}
use Rattle.held.specs.declared.Asked.TheVariants as Askeds
use Rattle.held.specs.Held.{book_in, taken_up}
use Rattle.held.specs.Changes.{Change, addition, withdrawal, changed_in}
use Rattle.held.specs.Asked.{change_asked}
use Rattle.held.proofs.Buffers.{book_bytes_lem}
use Rattle.held.proofs.Steps.{read_or_refused}
use Rattle.renewing.specs.Making.{NewBook, NewMade, Appendable, BookAppended, Removable, RecordLeftOut}

-- each element fits in a byte, as a slice of bytes has it
abbrev Slice : List ℕ → Type 0
Slice s = (i : ℕ) → Fits w8 (get_or s i 0)

-- so they are bytes
bytes_of : (s : List ℕ) → Slice s → AreBytes s
bytes_of s f i = (f i).fits

-- what was taken up of a held book that has the room: a presentation of so many letters and relations
record Taken (held : List ℕ) (size : BookSize) : Type 0 where
  presentation : Presentation
  found : taken_up held ≡ read presentation
  many : size.letters ≡ presentation.letters
  counted : size.relations ≡ length presentation.relations
  room : held_room ≤ length held
  reads : read_book (book_in held) ≡ read presentation

-- what a reading of it says of the presentation
taken_of : (held : List ℕ) (size : BookSize) (p : Presentation) → taken_up held ≡ read p
    → ◌≡◌ {A = Result BookSize Refusal} (Ok size) (Ok (record { letters = p.letters; relations = length p.relations })) → Taken held size
unfolding taken_up
taken_of held size p e f =
    let q : ◌≡◌ {A = BookSize} size (record { letters = p.letters; relations = length p.relations }) = cc in
    let a = passed (ltb (length held) held_room) _ _ _ (read_or_refused p _) e in
    record {
      presentation = p;
      found = e;
      many = ap (λ (s : BookSize). s.letters) q;
      counted = ap (λ (s : BookSize). s.relations) q;
      room = ltb-false (length held) held_room a.0;
      reads = a.1;
    }

module _ {held : List ℕ} {size : BookSize} (t : Taken held size) where
  -- it is within the limits
  taken_within : Within t.presentation
  taken_within = read_within (book_in held) t.presentation t.reads

  -- the book is its bytes
  taken_bytes : Slice held → book_in held ≡ book_bytes t.presentation
  taken_bytes are = bytes_unique (book_in held) t.presentation (book_bytes_lem held (bytes_of held are)) t.reads

-- the answer of taking up
module _ (held : List ℕ) (r : Result BookSize Refusal) (e : r ≡ reading_of (taken_up held)) where
  -- it was read
  taken_read : (size : BookSize) → r ≡ Ok size → Taken held size
  taken_read size f = go (taken_up held) refl
    where
      go : (o : BookReading) → taken_up held ≡ o → Taken held size
      go (read p) q = taken_of held size p q (sym f ∙ e ∙ ap reading_of q)
      go (refused x) q = absurd (let g = sym f ∙ e ∙ ap reading_of q in let z : ◌≡◌ {A = ℕ} 0 1 = cc g in omega arith)

  -- it was refused
  taken_refused : (change : Change) (x : Refusal) → r ≡ Err x → changed_in change held ≡ refused x
  unfolding changed_in
  taken_refused change x f = go (taken_up held) refl
    where
      go : (o : BookReading) → taken_up held ≡ o → changed_in change held ≡ refused x
      go (read p) q = absurd (let g = sym f ∙ e ∙ ap reading_of q in let z : ◌≡◌ {A = ℕ} 0 1 = cc g in omega arith)
      go (refused y) q = let g = sym f ∙ e ∙ ap reading_of q in let z : y ≡ x = cc g in rw (q, z)

-- a refusal of the change
refusal_made : (change : Change) (held fresh : List ℕ) (x : Refusal) → changed_in change held ≡ refused x → NewMade change held fresh (Err x) fresh
refusal_made change held fresh x e =
    record {
      book = λ n q. absurd (let z : ◌≡◌ {A = ℕ} 0 1 = cc q in omega arith);
      refuses = λ y q. let z : x ≡ y = cc q in e ∙ ap refused z;
      long = refl;
    }

-- a new book
book_made : (change : Change) (held fresh : List ℕ) (n : ℕ) (fresh' : List ℕ) → NewBook change held n fresh' → length fresh' ≡ length fresh
    → NewMade change held fresh (Ok n) fresh'
book_made change held fresh n fresh' b l =
    record {
      book = λ m q. let z : n ≡ m = cc q in subst (λ (k : ℕ). NewBook change held k fresh') z b;
      refuses = λ x q. absurd (let z : ◌≡◌ {A = ℕ} 0 1 = cc q in omega arith);
      long = l;
    }

-- these bytes are the presentation that a change makes of a held book
record NewBytes (change : Change) (held book : List ℕ) : Type 0 where
  presentation : Presentation
  is : changed_in change held ≡ read presentation
  same : book ≡ book_bytes presentation
  within : Within presentation
  room : held_room ≤ length held

-- they are no more than a book has
new_few : {change : Change} {held book : List ℕ} → NewBytes change held book → length book ≤ book_most
new_few b = omega (arith, bytes_few b.presentation b.within, ap length b.same)

-- they are written
new_book : {change : Change} {held book : List ℕ} {n : ℕ} {fresh : List ℕ} → NewBytes change held book → take n fresh ≡ book → n ≤ book_most → n ≤ length fresh
    → NewBook change held n fresh
new_book b e h k = record { presentation = b.presentation; is = b.is; bytes = e ∙ b.same; inside = k; few = h; room = b.room }

-- what a refusal of taking up makes of a change
pub refused_up : (change : Change) (held fresh : List ℕ) (r : Result BookSize Refusal) → r ≡ reading_of (taken_up held) → (x : Refusal) → r ≡ Err x
    → NewMade change held fresh (Err x) fresh
refused_up change held fresh r e x f = refusal_made change held fresh x (taken_refused held r e change x f)

-- an addition
module _ (held bytes fresh : List ℕ) (r : Result BookSize Refusal) (e : r ≡ reading_of (taken_up held)) (size : BookSize) (f : r ≡ Ok size)
    (o : Result RelationFields Refusal) (g : o ≡ addition_at size.letters size.relations (length (book_in held)) bytes) where
  -- what the record says of the presentation that is held
  record_of : (t : Taken held size) → addition_at t.presentation.letters (length t.presentation.relations) (length (book_in held)) bytes ≡ o
  record_of t = rw (← t.many, ← t.counted) (sym g)

  -- the record is refused
  pub addition_refused : (x : Refusal) → o ≡ Err x → NewMade (addition bytes) held fresh (Err x) fresh
  unfolding changed_in
  addition_refused x h =
      let t = taken_read held r e size f in
      let q = record_of t ∙ h in
      refusal_made (addition bytes) held fresh x (rw (t.found, q))

  module _ (are : Slice held) (these : Slice bytes) (fields : RelationFields) (h : o ≡ Ok fields) (l : length fresh ≡ book_most) where
    -- the book with the record behind it is the bytes of the presentation with one relation more
    grown : NewBytes (addition bytes) held (book_in held ++ bytes)
    unfolding changed_in
    grown =
        let t = taken_read held r e size f in
        let p = t.presentation in
        let q = record_of t ∙ h in
        let n = length (book_in held) in
        let s = relation_in bytes fields.left fields.right fields.end in
        let b = addition_bytes p.letters (length p.relations) n bytes fields.left fields.right fields.end (bytes_of bytes these) q in
        let v = addition_within p.letters (length p.relations) n bytes fields.left fields.right fields.end q in
        let m = addition_few p.letters (length p.relations) n bytes fields.left fields.right fields.end q in
        record {
          presentation = adding p s;
          is = rw (t.found, q);
          same = cc (taken_bytes t are, b, adding_bytes p s);
          within = adding_within p s (taken_within t) v m;
          room = t.room;
        }

    -- it has room
    pub addition_room : Appendable held bytes fresh
    addition_room = record { room = omega (arith, new_few grown, length-append (book_in held) bytes) }

    -- and is made
    pub addition_made : (n : ℕ) (fresh' : List ℕ) → BookAppended held bytes fresh n fresh' → NewMade (addition bytes) held fresh (Ok n) fresh'
    addition_made n fresh' b =
        let k : n ≤ book_most = omega (arith, new_few grown, length-append (book_in held) bytes, b.count) in
        book_made (addition bytes) held fresh n fresh' (new_book grown b.front k (omega (arith, b.long))) b.long

pub ruleset addings = (refused_up, addition_refused, addition_room, addition_made, rules)

-- a withdrawal
module _ (held : List ℕ) (i : ℕ) (fresh : List ℕ) (r : Result BookSize Refusal) (e : r ≡ reading_of (taken_up held)) (size : BookSize) (f : r ≡ Ok size) where
  -- there is no such relation
  pub withdrawal_none : size.relations ≤ i → NewMade (withdrawal i) held fresh (Err NoSuchRelation) fresh
  unfolding changed_in
  withdrawal_none h =
      let t = taken_read held r e size f in
      let k = t.counted in
      refusal_made (withdrawal i) held fresh NoSuchRelation (rw (t.found, le-leb (length t.presentation.relations) i (omega arith)))

  module _ (are : Slice held) (h : i < size.relations) (l : length fresh ≡ book_most) where
    -- the book without the record is the bytes of the presentation without the relation
    shrunk : NewBytes (withdrawal i) held (take (relation_start (book_in held) i) (book_in held) ++ drop (relation_start (book_in held) (i + 1)) (book_in held))
    unfolding changed_in
    shrunk =
        let t = taken_read held r e size f in
        let p = t.presentation in
        let k = t.counted in
        record {
          presentation = without p i;
          is = rw (t.found, lt-leb (length p.relations) i (omega arith));
          same = rw (taken_bytes t are) (sym (without_bytes p i (taken_within t) (omega arith)));
          within = without_within p i (taken_within t);
          room = t.room;
        }

    -- how many bytes the book has
    held_few : length (book_in held) ≤ book_most
    held_few =
        let t = taken_read held r e size f in
        omega (arith, bytes_few t.presentation (taken_within t), ap length (taken_bytes t are))

    -- the record lies in the book, which has room
    pub withdrawal_room : Removable held i fresh
    withdrawal_room =
        let t = taken_read held r e size f in
        let p = t.presentation in
        let k = t.counted in
        record {
          starts = rw (taken_bytes t are) (record {
            inside = λ j b. starts_inside p j (taken_within t) (omega arith);
            ends = λ j b. starts_end p j (taken_within t) (omega arith);
          });
          room = omega (arith, held_few);
        }

    -- the new book is made
    pub withdrawal_made : (n : ℕ) (fresh' : List ℕ) → RecordLeftOut held i fresh n fresh' → NewMade (withdrawal i) held fresh (Ok n) fresh'
    withdrawal_made n fresh' b =
        let k : n ≤ book_most = omega (arith, held_few, b.count) in
        book_made (withdrawal i) held fresh n fresh' (new_book shrunk b.front k (omega (arith, b.long))) b.long

pub ruleset withdrawings = (refused_up, withdrawal_none, withdrawal_room, withdrawal_made, rules)

-- the change that is asked for: its new book is that of the addition or of the withdrawal
module _ (asked : Asked) (held bytes fresh : List ℕ) (r : Result ℕ Refusal) (fresh' : List ℕ) where
  pub asked_addition : asked ≡ Askeds.Addition → NewMade (addition bytes) held fresh r fresh' → NewMade (change_asked asked bytes) held fresh r fresh'
  asked_addition e m = rw e m

  pub asked_withdrawal : (i : ℕ) → asked ≡ Askeds.Withdrawal i → NewMade (withdrawal i) held fresh r fresh' → NewMade (change_asked asked bytes) held fresh r fresh'
  asked_withdrawal i e m = rw e m

pub ruleset askings = (asked_addition, asked_withdrawal, rules)
