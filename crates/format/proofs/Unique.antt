-- Bytes that are read are the bytes of what was read. Where the records of relations begin in the bytes of a presentation, and the bytes of one with a relation
-- more or less.
use Prim.Native.Nat.{ℕ, zero, suc, ◌+◌, ◌-◌, ◌/◌, ◌%◌, ◌≤◌, ◌<◌}
use mathlib.Core.Bool.{Bool, true, false, ◌||◌, cond}
use mathlib.Core.List.{List, [], ◌∷◌, ◌++◌, append_assoc, append-nil}
use mathlib.Core.Path.{◌≡◌, refl, sym, ap, ◌∙◌}
use native.Mathlib.Numerals.{add-one}
use native.Mathlib.Omega.{arith}
use lib.Dec.{leb}
use lib.ListN.{length, get_or, take, drop, length-append, length-take, length-drop, take-append-drop, drop_of_length-le}
use lib.Seq.{take-suc, drop-cons, drop-drop, take_at, drop_at}
use borrow.Author.Tests.{leb-true}
use Rattle.std.specs.Prelude.{Some, Result, Ok, Err}
use Rattle.words.specs.Words.{part}
use Rattle.words.specs.Relations.{Relation}
use Rattle.words.proofs.Parts.{part_length}
use Rattle.limits.specs.Limits.{relations_most, outside}
use Rattle.words.specs.Letters.{unknown_in}
use Rattle.format.specs.declared.HeadFields.{HeadFields}
use Rattle.format.specs.declared.RelationFields.{RelationFields}
use Rattle.format.specs.Book.{Presentation, adding, without, read, byte, field, record_at, differs, head_at, fields_at, relation_at, relation_start, relation_in, on_head, on_relation, relations_from, read_book}
use Rattle.format.specs.Bytes.{head_bytes, relation_bytes, relations_bytes, book_bytes, RelationWithin, AllWithin, none, more, Within, AreBytes, BytesUnique}
use Rattle.format.proofs.Readings.{passed, head_or_refused, relation_or_refused, head_parts, relation_parts, equal_of, whole_at, passed_whole, relation_read, within_snoc}
use Rattle.format.proofs.Bytes.{record_there}
use Rattle.refusals.specs.declared.Refusal.{Refusal}

-- where the parts of a relation that was read lie
pub record RelationLies (letters count place : ℕ) (book : List ℕ) (at left right to : ℕ) : Type 0 where
  pub whole : record_at book at ≡ Some (record { kind = 2; from = at + 4; to = to })
  pub fields : fields_at letters place book (at + 4) to ≡ Ok (record { left = left; right = right; end = to })
  pub room : count < relations_most
  pub size : to ≡ at + 4 + field book at
  pub kind : field book (at + 2) ≡ 2
  pub first : left ≡ at + 4 + 2
  pub second : right ≡ at + 4 + 2 + byte book (at + 4)
  pub end : to ≡ at + 4 + 2 + byte book (at + 4) + byte book (at + 4 + 1)
  pub fits : to ≤ length book

pub relation_lies : (letters count place : ℕ) (book : List ℕ) (at left right to : ℕ) → relation_at letters count place book at ≡ Ok (record { left = left; right = right; end = to })
    → RelationLies letters count place book at left right to
unfolding relation_at fields_at
relation_lies letters count place book at left right to e =
    let other = relation_or_refused left right to in
    let r = relation_read letters count place book at left right to e in
    let a = passed_whole (record_at book at) _ _ _ (other _) e in
    let w = whole_at book at a.0 a.1 a.2 a.3 in
    let b = passed (differs a.0 2) _ _ _ (other _) a.4 in
    let c = passed (leb 32 count) _ _ _ (other _) b.1 in
    let d = passed (differs (a.2 - a.1) (2 + byte book a.1 + byte book (a.1 + 1))) _ _ _ (other _) c.1 in
    let f = passed (outside 1 64 (byte book a.1) || outside 1 64 (byte book (a.1 + 1))) _ _ _ (other _) d.1 in
    let g = passed (unknown_in letters (part book (a.1 + 2) a.2)) _ _ _ (other _) f.1 in
    let k = equal_of a.0 2 b.0 in
    let l = equal_of (a.2 - a.1) (2 + byte book a.1 + byte book (a.1 + 1)) d.0 in
    let v = relation_parts _ _ g.1 in
    let x : a.1 + 2 ≡ left = v.0 in
    let y : a.1 + 2 + byte book a.1 ≡ right = v.1 in
    let z : a.2 ≡ to = v.2 in
    let s : a.1 ≡ at + 4 = w.start in
    let m : byte book a.1 ≡ byte book (at + 4) = ap (byte book) s in
    let n : byte book (a.1 + 1) ≡ byte book (at + 4 + 1) = ap (λ (i : ℕ). byte book (i + 1)) s in
    record {
      whole = cc (a.3, k, s, z);
      fields = cc (c.1, s, z);
      room = r.room;
      size = omega (arith, w.end);
      kind = omega (arith, w.kinds);
      first = omega arith;
      second = omega arith;
      end = omega arith;
      fits = omega (arith, w.fits);
    }

-- where the parts of a head that was read lie
pub record HeadLies (book : List ℕ) (letters to : ℕ) : Type 0 where
  pub whole : record_at book 0 ≡ Some (record { kind = 1; from = 4; to = 5 })
  pub size : field book 0 ≡ 1
  pub kind : field book 2 ≡ 1
  pub count : byte book 4 ≡ letters
  pub end : to ≡ 5
  pub fits : 5 ≤ length book

pub head_lies : (most place : ℕ) (book : List ℕ) (letters to : ℕ) → head_at most place book 0 ≡ Ok (record { letters = letters; end = to }) → HeadLies book letters to
unfolding head_at
head_lies most place book letters to e =
    let other = head_or_refused letters to in
    let a = passed_whole (record_at book 0) _ _ _ (other _) e in
    let w = whole_at book 0 a.0 a.1 a.2 a.3 in
    let b = passed (differs a.0 1) _ _ _ (other _) a.4 in
    let c = passed (differs (a.2 - a.1) 1) _ _ _ (other _) b.1 in
    let d = passed (outside 1 most (byte book a.1)) _ _ _ (other _) c.1 in
    let k = equal_of a.0 1 b.0 in
    let l = equal_of (a.2 - a.1) 1 c.0 in
    let v = head_parts _ _ d.1 in
    let x : byte book a.1 ≡ letters = v.0 in
    let y : a.2 ≡ to = v.1 in
    let s : a.1 ≡ 4 = omega (arith, w.start) in
    let t : a.2 ≡ 5 = omega arith in
    record {
      whole = cc (a.3, k, s, t);
      size = omega (arith, w.end);
      kind = omega (arith, w.kinds);
      count = cc (x, s);
      end = omega arith;
      fits = omega (arith, w.fits);
    }

-- the front byte of what is left of a list
front : (s : List ℕ) (at next x : ℕ) → at < length s → next ≡ suc at → x ≡ byte s at → drop at s ≡ x ∷ drop next s
front s at next x h e f = rw (e, f) (drop-cons s at 0 h)

-- a part, and what is left behind it
part_rest : (s : List ℕ) (a b : ℕ) → a ≤ b → drop a s ≡ part s a b ++ drop b s
part_rest s a b h =
    let e : a + (b - a) ≡ b = omega arith in
    sym (take-append-drop (b - a) (drop a s)) ∙ rw (drop-drop (b - a) a s, e)

-- the bytes of a relation that was read
pub relation_bytes_lem : (letters count place : ℕ) (book : List ℕ) (at left right to : ℕ) → AreBytes book → RelationLies letters count place book at left right to
    → drop at book ≡ relation_bytes (relation_in book left right to) ++ drop to book
relation_bytes_lem letters count place book at left right to are l =
    let u = part book left right in
    let v = part book right to in
    let lu = part_length book left right (omega arith) in
    let lv = part_length book right to (omega arith) in
    let n = length-append u v in
    let k : byte book (at + 2 + 1) ≡ byte book (at + 3) = ap (byte book) (omega arith) in
    let i : byte book (at + 4 + 1) ≡ byte book (at + 5) = ap (byte book) (omega arith) in
    let low = are at in
    let b0 = front book at (at + 1) (suc (suc (length (u ++ v))) % 256) (omega arith) (omega arith) (omega arith) in
    let b1 = front book (at + 1) (at + 2) (suc (suc (length (u ++ v))) / 256) (omega arith) (omega arith) (omega arith) in
    let b2 = front book (at + 2) (at + 3) 2 (omega arith) (omega arith) (omega arith) in
    let b3 = front book (at + 3) (at + 4) 0 (omega arith) (omega arith) (omega arith) in
    let b4 = front book (at + 4) (at + 5) (length u) (omega arith) (omega arith) (omega arith) in
    let b5 = front book (at + 5) left (length v) (omega arith) (omega arith) (omega arith) in
    let p = part_rest book left right (omega arith) in
    let q = part_rest book right to (omega arith) in
    cc (b0, b1, b2, b3, b4, b5, p, q, append_assoc u v (drop to book))

-- the bytes of a head that was read
pub head_bytes_lem : (book : List ℕ) (letters to : ℕ) → HeadLies book letters to → book ≡ head_bytes letters ++ drop to book
head_bytes_lem book letters to l =
    let k : byte book 1 ≡ 0 = omega arith in
    let b0 = front book 0 1 1 (omega arith) (omega arith) (omega arith) in
    let b1 = front book 1 2 0 (omega arith) (omega arith) (omega arith) in
    let b2 = front book 2 3 1 (omega arith) (omega arith) (omega arith) in
    let b3 = front book 3 4 0 (omega arith) (omega arith) (omega arith) in
    let b4 = front book 4 5 letters (omega arith) (omega arith) (omega arith) in
    rw l.end (b0 ∙ rw (b1, b2, b3, b4))

-- the bytes of relations, one list behind another
pub relations_append : (rs ss : List Relation) → relations_bytes (rs ++ ss) ≡ relations_bytes rs ++ relations_bytes ss
unfolding relations_bytes
relations_append [] ss = refl
relations_append (r ∷ rs) ss = rw (relations_append rs ss) (sym (append_assoc (relation_bytes r) (relations_bytes rs) (relations_bytes ss)))

-- the bytes of one relation more stand at the end
pub adding_bytes : (presentation : Presentation) (r : Relation) → book_bytes (adding presentation r) ≡ book_bytes presentation ++ relation_bytes r
unfolding book_bytes relations_bytes
adding_bytes presentation r =
    let h = head_bytes presentation.letters in
    let rs = presentation.relations in
    rw (relations_append rs (r ∷ []), append-nil) (sym (append_assoc h (relations_bytes rs) (relation_bytes r)))

-- where nothing is left, what was read is all
all_read : (presentation : Presentation) (book : List ℕ) (at : ℕ) (last : Presentation) → length book ≤ at → book ≡ book_bytes presentation ++ drop at book
    → read presentation ≡ read last → book ≡ book_bytes last
all_read presentation book at last h i e =
    let x : presentation ≡ last = cc in
    let d = drop_of_length-le book h in
    cc (i, d, x, append-nil (book_bytes presentation))

-- the bytes of what was read before a position stand before it: so for all
from_unique : (fuel : ℕ) (presentation : Presentation) (book : List ℕ) (at : ℕ) (last : Presentation) → AreBytes book → length book ≤ at + fuel
    → book ≡ book_bytes presentation ++ drop at book → relations_from fuel presentation book at ≡ read last → book ≡ book_bytes last
unfolding relations_from
from_unique zero presentation book at last are h i e = all_read presentation book at last (omega arith) i e
from_unique (suc fuel) presentation book at last are h i e =
    go (leb (length book) at) (relation_at presentation.letters (length presentation.relations) at book at) refl refl e (λ left right to.
    from_unique fuel (adding presentation (relation_in book left right to)) book to last are)
  where
    go : (b : Bool) (o : Result RelationFields Refusal) → leb (length book) at ≡ b → relation_at presentation.letters (length presentation.relations) at book at ≡ o
        → cond b (read presentation) (on_relation o (λ left right to. relations_from fuel (adding presentation (relation_in book left right to)) book to)) ≡ read last
        → ((left right to : ℕ) → length book ≤ to + fuel → book ≡ book_bytes (adding presentation (relation_in book left right to)) ++ drop to book
        → relations_from fuel (adding presentation (relation_in book left right to)) book to ≡ read last → book ≡ book_bytes last)
        → book ≡ book_bytes last
    go true o p q e r = all_read presentation book at last (leb-true (length book) at p) i e
    go false (Err x) p q e r = absurd (let z : ◌≡◌ {A = ℕ} 0 1 = cc in omega arith)
    go false (Ok fields) p q e r =
        let l = relation_lies presentation.letters (length presentation.relations) at book at fields.left fields.right fields.end q in
        let d = relation_bytes_lem presentation.letters (length presentation.relations) at book at fields.left fields.right fields.end are l in
        let t = relation_in book fields.left fields.right fields.end in
        r fields.left fields.right fields.end (omega arith) (cc (i, d, adding_bytes presentation t, append_assoc (book_bytes presentation) (relation_bytes t) (drop fields.end book))) e

pub bytes_unique : BytesUnique
unfolding read_book book_bytes relations_bytes
bytes_unique book presentation are e = go (head_at 64 0 book 0) refl e
  where
    go : (o : Result HeadFields Refusal) → head_at 64 0 book 0 ≡ o
        → on_head o (λ letters to. relations_from (length book) (record { letters = letters; relations = [] }) book to) ≡ read presentation → book ≡ book_bytes presentation
    go (Err x) q e = absurd (let z : ◌≡◌ {A = ℕ} 0 1 = cc in omega arith)
    go (Ok fields) q e =
        let l = head_lies 64 0 book fields.letters fields.end q in
        from_unique (length book) (record { letters = fields.letters; relations = [] }) book fields.end presentation are (omega arith) (head_bytes_lem book fields.letters fields.end l) e

-- the bytes before the record of relation k
abbrev pub bytes_before : Presentation → ℕ → List ℕ
bytes_before presentation k = head_bytes presentation.letters ++ relations_bytes (take k presentation.relations)

-- relation k
abbrev nth : Presentation → ℕ → Relation
nth presentation k = get_or presentation.relations k (record { left = []; right = [] })

-- the bytes before a record, and those from there
pub bytes_split : (presentation : Presentation) (k : ℕ) → book_bytes presentation ≡ bytes_before presentation k ++ relations_bytes (drop k presentation.relations)
unfolding book_bytes
bytes_split presentation k =
    let h = head_bytes presentation.letters in
    let rs = presentation.relations in
    let a = ap (λ (l : List Relation). h ++ relations_bytes l) (sym (take-append-drop k rs)) in
    let b = ap (λ (l : List ℕ). h ++ l) (relations_append (take k rs) (drop k rs)) in
    a ∙ b ∙ sym (append_assoc h (relations_bytes (take k rs)) (relations_bytes (drop k rs)))

module _ (presentation : Presentation) (k : ℕ) (h : k < length presentation.relations) where
  -- the bytes from a record are its own and those behind it
  record_split : book_bytes presentation
      ≡ bytes_before presentation k ++ (relation_bytes (nth presentation k) ++ relations_bytes (drop (suc k) presentation.relations))
  unfolding relations_bytes
  record_split =
      let d = drop-cons presentation.relations k (record { left = []; right = [] }) h in
      bytes_split presentation k ∙ ap (λ (l : List Relation). bytes_before presentation k ++ relations_bytes l) d

  -- the bytes before the next record are those before it and its own
  next_before : bytes_before presentation (suc k) ≡ bytes_before presentation k ++ relation_bytes (nth presentation k)
  unfolding relations_bytes
  next_before =
      let rs = presentation.relations in
      let r = nth presentation k in
      let g = head_bytes presentation.letters in
      let t = ap relations_bytes (take-suc rs k (record { left = []; right = [] }) h) ∙ relations_append (take k rs) (r ∷ []) in
      ap (λ (l : List ℕ). g ++ l) (t ∙ ap (λ (l : List ℕ). relations_bytes (take k rs) ++ l) (append-nil (relation_bytes r))) ∙ sym (append_assoc g (relations_bytes (take k rs)) (relation_bytes r))

  -- what a record's length says, and that it lies in the book
  record_size : length (bytes_before presentation k) + 4 + field (book_bytes presentation) (length (bytes_before presentation k)) ≡ length (bytes_before presentation (suc k))
  record_size =
      let r = nth presentation k in
      let pre = bytes_before presentation k in
      let payload = length r.left ∷ length r.right ∷ (r.left ++ r.right) in
      let w = whole_at (book_bytes presentation) (length pre) 2 (length pre + 4) (length pre + 4 + length payload)
      (record_there pre 2 payload (relations_bytes (drop (suc k) presentation.relations)) (book_bytes presentation) record_split) in
      let l = ap length next_before ∙ length-append pre (relation_bytes r) in
      omega (arith, w.end)

-- where the record of relation k begins
pub starts_at : (presentation : Presentation) (k : ℕ) → Within presentation → k ≤ length presentation.relations
    → relation_start (book_bytes presentation) k ≡ length (head_bytes presentation.letters ++ relations_bytes (take k presentation.relations))
unfolding relation_start relations_bytes
starts_at presentation zero w h = refl
starts_at presentation (suc k) w h =
    let s = starts_at presentation k w (omega arith) in
    rw s (record_size presentation k (omega arith))

-- it begins in the book
pub starts_end : (presentation : Presentation) (k : ℕ) → Within presentation → k ≤ length presentation.relations
    → relation_start (book_bytes presentation) k ≤ length (book_bytes presentation)
starts_end presentation k w h =
    let s = starts_at presentation k w h in
    let l = ap length (bytes_split presentation k) ∙ length-append (bytes_before presentation k) (relations_bytes (drop k presentation.relations)) in
    omega arith

-- and its first two bytes lie there, where there is such a relation
pub starts_inside : (presentation : Presentation) (k : ℕ) → Within presentation → k < length presentation.relations
    → relation_start (book_bytes presentation) k + 1 < length (book_bytes presentation)
starts_inside presentation k w h =
    let s = starts_at presentation k w (omega arith) in
    let e = starts_end presentation (suc k) w (omega arith) in
    let f = starts_at presentation (suc k) w (omega arith) in
    let z = record_size presentation k h in
    omega arith

-- a list before and behind a place
before_of : (s a b : List ℕ) (n : ℕ) → s ≡ a ++ b → n ≡ length a → take n s ≡ a
before_of s a b n e f = rw e (take_at a b n (sym f))

behind_of : (s a b : List ℕ) (n : ℕ) → s ≡ a ++ b → n ≡ length a → drop n s ≡ b
behind_of s a b n e f = rw e (drop_at a b n (sym f))

-- the bytes without a relation are those before its record and those behind it
pub without_bytes : (presentation : Presentation) (i : ℕ) → Within presentation → i < length presentation.relations
    → book_bytes (without presentation i)
    ≡ take (relation_start (book_bytes presentation) i) (book_bytes presentation) ++ drop (relation_start (book_bytes presentation) (i + 1)) (book_bytes presentation)
unfolding book_bytes
without_bytes presentation i w h =
    let book = book_bytes presentation in
    let rs = presentation.relations in
    let g = head_bytes presentation.letters in
    let a = before_of book (bytes_before presentation i) _ (relation_start book i) (bytes_split presentation i) (starts_at presentation i w (omega arith)) in
    let n = ap (relation_start book) (add-one i) ∙ starts_at presentation (suc i) w (omega arith) in
    let b = behind_of book (bytes_before presentation (suc i)) _ (relation_start book (i + 1)) (bytes_split presentation (suc i)) n in
    cc (a, b, relations_append (take i rs) (drop (suc i) rs), append_assoc g (relations_bytes (take i rs)) (relations_bytes (drop (suc i) rs)))

-- some of relations within the limits
within_take : {letters : ℕ} {rs : List Relation} (i : ℕ) → AllWithin letters rs → AllWithin letters (take i rs)
within_take zero a = none
within_take (suc i) none = none
within_take (suc i) (more w a) = more w (within_take i a)

within_drop : {letters : ℕ} {rs : List Relation} (i : ℕ) → AllWithin letters rs → AllWithin letters (drop i rs)
within_drop zero a = a
within_drop (suc i) none = none
within_drop (suc i) (more w a) = within_drop i a

within_append : {letters : ℕ} {rs ss : List Relation} → AllWithin letters rs → AllWithin letters ss → AllWithin letters (rs ++ ss)
within_append none b = b
within_append (more w a) b = more w (within_append a b)

-- one relation less is within the limits
pub without_within : (presentation : Presentation) (i : ℕ) → Within presentation → Within (without presentation i)
without_within presentation i w =
    record {
      some = w.some;
      few = w.few;
      few_relations = simp (length-append, length-take, length-drop) (omega (arith, w.few_relations));
      all = within_append (within_take i w.all) (within_drop (suc i) w.all);
    }

-- one relation more is, if it is and there is room for it
pub adding_within : (presentation : Presentation) (r : Relation) → Within presentation → RelationWithin presentation.letters r
    → length presentation.relations < relations_most → Within (adding presentation r)
adding_within presentation r w v h =
    record { some = w.some; few = w.few; few_relations = simp length-append (omega arith); all = within_snoc w.all v }

-- how many relations are left
pub without_length : (presentation : Presentation) (i : ℕ) → i < length presentation.relations
    → length (without presentation i).relations ≡ length presentation.relations - 1
without_length presentation i h = simp (length-append, length-take, length-drop) (omega arith)
