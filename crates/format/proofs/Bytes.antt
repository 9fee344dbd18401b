-- Reading the bytes of a presentation within the limits gives it back.
use Prim.Native.Nat.{ℕ, zero, suc, ◌+◌, ◌-◌, ◌/◌, ◌%◌, ◌≤◌, ◌<◌}
use mathlib.Core.Bool.{false}
use mathlib.Core.List.{List, [], ◌∷◌, ◌++◌, append_assoc, append-nil}
use mathlib.Core.Path.{◌≡◌, refl, sym, ap, ◌∙◌}
use native.Mathlib.Omega.{arith}
use lib.ListN.{length, drop, length-append}
use lib.Seq.{get_or-append-add, drop-append-add, drop-append_seam, take_at}
use borrow.Author.Tests.{eq-eqb, le-ltb, le-leb, lt-leb}
use Rattle.std.specs.Prelude.{Some, Ok}
use Rattle.words.specs.Words.{part}
use Rattle.words.specs.Relations.{Relation}
use Rattle.limits.specs.Limits.{letters_most, relations_most, outside}
use Rattle.words.specs.Letters.{unknown_in}
use Rattle.words.specs.Letters.{first_unknown}
use Rattle.letters.proofs.Letters.{of_known, unknown_append}
use Rattle.format.specs.Book.{read, byte, field, record_at, differs, head_at, fields_at, relation_at, relation_in, relations_from, read_book}
use Rattle.format.specs.Bytes.{record_bytes, head_bytes, relation_bytes, relations_bytes, book_bytes, RelationWithin, AllWithin, none, more, ReadBytes}

-- a check that passes
same_passes : (m n : ℕ) → m ≡ n → differs m n ≡ false
same_passes m n e = rw (eq-eqb m n e)

inside_passes : (least most x : ℕ) → least ≤ x → x ≤ most → outside least most x ≡ false
inside_passes least most x h k = rw (le-ltb x least h, le-ltb most x k)

-- the bytes of a record, behind others, are read back
module _ (pre : List ℕ) (kind : ℕ) (payload rest book : List ℕ) (e : book ≡ pre ++ (record_bytes kind payload ++ rest)) where
  byte_at : (i : ℕ) → byte book (length pre + i) ≡ byte (record_bytes kind payload ++ rest) i
  byte_at i = rw e (get_or-append-add pre (record_bytes kind payload ++ rest) i 0)

  length_field : field book (length pre) ≡ length payload
  length_field =
      let z : length pre ≡ length pre + 0 = omega arith in
      let a : byte book (length pre) ≡ length payload % 256 = ap (byte book) z ∙ byte_at 0 in
      let b : byte book (length pre + 1) ≡ length payload / 256 = byte_at 1 in
      omega arith

  kind_field : field book (length pre + 2) ≡ kind
  kind_field =
      let z : length pre + 2 + 1 ≡ length pre + 3 = omega arith in
      let a : byte book (length pre + 2) ≡ kind % 256 = byte_at 2 in
      let b : byte book (length pre + 2 + 1) ≡ kind / 256 = ap (byte book) z ∙ byte_at 3 in
      omega arith

  record_length : length book ≡ length pre + 4 + length payload + length rest
  record_length = rw (e, length-append pre (record_bytes kind payload ++ rest), length-append payload rest) (omega arith)

  pub record_there : record_at book (length pre) ≡ Some (record { kind = kind; from = length pre + 4; to = length pre + 4 + length payload })
  unfolding record_at
  record_there =
      let l = record_length in
      rw (length_field, kind_field, le-ltb (length book) (length pre + 4) (omega arith), le-ltb (length book) (length pre + 4 + length payload) (omega arith))

  pub payload_at : (i : ℕ) → byte book (length pre + 4 + i) ≡ byte (payload ++ rest) i
  payload_at i = ap (byte book) (omega arith) ∙ byte_at (suc (suc (suc (suc i))))

  -- a part of the payload
  pub payload_part : (i n : ℕ) (a b : List ℕ) → n ≡ length a → drop i (payload ++ rest) ≡ a ++ b → part book (length pre + 4 + i) (length pre + 4 + i + n) ≡ a
  payload_part i n a b l f =
      let z : length pre + 4 + i + n - (length pre + 4 + i) ≡ n = omega arith in
      let y : length pre + 4 + i ≡ length pre + suc (suc (suc (suc i))) = omega arith in
      let d : drop (length pre + 4 + i) book ≡ a ++ b = rw (y, e) (drop-append-add pre (record_bytes kind payload ++ rest) (suc (suc (suc (suc i)))) ∙ f) in
      rw (z, d) (take_at a b n (sym l))

-- a relation within the limits, behind other bytes, is read back
module _ (letters count : ℕ) (r : Relation) (w : RelationWithin letters r) (pre rest book : List ℕ) (e : book ≡ pre ++ (relation_bytes r ++ rest)) where
  abbrev payload : List ℕ
  payload = length r.left ∷ length r.right ∷ (r.left ++ r.right)

  left_byte : byte book (length pre + 4) ≡ length r.left
  left_byte = ap (byte book) (omega arith) ∙ payload_at pre 2 payload rest book e 0

  right_byte : byte book (length pre + 4 + 1) ≡ length r.right
  right_byte = payload_at pre 2 payload rest book e 1

  letters_part : part book (length pre + 4 + 2) (length pre + 4 + length payload) ≡ r.left ++ r.right
  letters_part =
      let z : length pre + 4 + length payload ≡ length pre + 4 + 2 + length (r.left ++ r.right) = omega arith in
      rw z (payload_part pre 2 payload rest book e 2 (length (r.left ++ r.right)) (r.left ++ r.right) rest refl refl)

  letters_known : unknown_in letters (part book (length pre + 4 + 2) (length pre + 4 + length payload)) ≡ false
  letters_known =
      let k = unknown_append letters r.left r.right (of_known letters r.left w.left.known) (of_known letters r.right w.right.known) in
      rw letters_part (le-ltb (first_unknown letters (r.left ++ r.right)) (length (r.left ++ r.right)) (omega arith))

  fields_there : (place : ℕ) → fields_at letters place book (length pre + 4) (length pre + 4 + length payload)
      ≡ Ok (record { left = length pre + 4 + 2; right = length pre + 4 + 2 + length r.left; end = length pre + 4 + length payload })
  unfolding fields_at
  fields_there place =
      let l = length-append r.left r.right in
      let a : differs (length pre + 4 + length payload - (length pre + 4)) (2 + length r.left + length r.right) ≡ false
      = same_passes (length pre + 4 + length payload - (length pre + 4)) (2 + length r.left + length r.right) (omega arith) in
      rw (
        left_byte,
        right_byte,
        a,
        inside_passes 1 64 (length r.left) (omega (arith, w.left.some)) (omega (arith, w.left.short)),
        inside_passes 1 64 (length r.right) (omega (arith, w.right.some)) (omega (arith, w.right.short)),
        letters_known,
      )

  pub relation_there : (place : ℕ) → count < relations_most → relation_at letters count place book (length pre)
      ≡ Ok (record { left = length pre + 4 + 2; right = length pre + 4 + 2 + length r.left; end = length pre + 4 + length payload })
  unfolding relation_at
  relation_there place h = rw (record_there pre 2 payload rest book e, lt-leb 32 count h) (fields_there place)

  pub relation_same : relation_in book (length pre + 4 + 2) (length pre + 4 + 2 + length r.left) (length pre + 4 + length payload) ≡ r
  relation_same =
      let l = length-append r.left r.right in
      let z : length pre + 4 + length payload ≡ length pre + 4 + suc (suc (length r.left)) + length r.right = omega arith in
      let y : length pre + 4 + 2 + length r.left ≡ length pre + 4 + suc (suc (length r.left)) = omega arith in
      let f : drop 2 (payload ++ rest) ≡ r.left ++ (r.right ++ rest) = append_assoc r.left r.right rest in
      let g : drop (suc (suc (length r.left))) (payload ++ rest) ≡ r.right ++ rest
      = rw (append_assoc r.left r.right rest) (drop-append_seam r.left (r.right ++ rest)) in
      let a : part book (length pre + 4 + 2) (length pre + 4 + 2 + length r.left) ≡ r.left
      = payload_part pre 2 payload rest book e 2 (length r.left) r.left (r.right ++ rest) refl f in
      let b : part book (length pre + 4 + 2 + length r.left) (length pre + 4 + length payload) ≡ r.right
      = rw (y, z) (payload_part pre 2 payload rest book e (suc (suc (length r.left))) (length r.right) r.right rest refl g) in
      rw (a, b)

-- so are all relations, behind others
from_bytes : (letters fuel : ℕ) (done rs : List Relation) (pre book : List ℕ) → AllWithin letters rs → length done + length rs ≤ relations_most
    → book ≡ pre ++ relations_bytes rs → length (relations_bytes rs) ≤ fuel
    → relations_from fuel (record { letters = letters; relations = done }) book (length pre) ≡ read (record { letters = letters; relations = done ++ rs })
unfolding relations_from relations_bytes
from_bytes letters zero done [] pre book none h e f = rw append-nil
from_bytes letters (suc fuel) done [] pre book none h e f =
    let l : length book ≡ length pre = rw (e, append-nil) in
    rw (le-leb (length book) (length pre) (omega arith), append-nil)
from_bytes letters zero done (r ∷ rs) pre book (more w all) h e f = absurd (omega arith)
from_bytes letters (suc fuel) done (r ∷ rs) pre book (more w all) h e f =
    let a = relation_there letters (length done) r w pre (relations_bytes rs) book e (length pre) (omega arith) in
    let b = relation_same letters (length done) r w pre (relations_bytes rs) book e in
    let l : length book ≡ length pre + (length (relation_bytes r) + length (relations_bytes rs)) = rw (e, length-append pre (relation_bytes r ++ relations_bytes rs), length-append (relation_bytes r) (relations_bytes rs)) in
    let q : length pre + 4 + suc (suc (length (r.left ++ r.right))) ≡ length (pre ++ relation_bytes r) = rw (length-append pre (relation_bytes r)) (omega arith) in
    let g : length (relation_bytes r ++ relations_bytes rs) ≡ length (relation_bytes r) + length (relations_bytes rs) = length-append (relation_bytes r) (relations_bytes rs) in
    let c = from_bytes letters fuel (done ++ (r ∷ [])) rs (pre ++ relation_bytes r) book all (simp length-append (omega arith)) (e ∙ sym (append_assoc pre (relation_bytes r) (relations_bytes rs))) (omega arith) in
    rw (lt-leb (length book) (length pre) (omega arith), a, b, q)
    (c ∙ ap (λ (l : List Relation). read (record { letters = letters; relations = l })) (append_assoc done (r ∷ []) rs))

-- the head
head_there : (letters : ℕ) (rest book : List ℕ) → 1 ≤ letters → letters ≤ letters_most → book ≡ head_bytes letters ++ rest
    → head_at letters_most 0 book 0 ≡ Ok (record { letters = letters; end = 5 })
unfolding head_at
head_there letters rest book h k e =
    let a = record_there [] 1 (letters ∷ []) rest book e in
    let b : byte book 4 ≡ letters = payload_at [] 1 (letters ∷ []) rest book e 0 in
    rw (a, b, inside_passes 1 64 letters h k)

pub read_bytes : ReadBytes
unfolding read_book book_bytes
read_bytes presentation w =
    let book = book_bytes presentation in
    let letters = presentation.letters in
    let a = head_there letters (relations_bytes presentation.relations) book w.some w.few refl in
    let b = from_bytes letters (length book) [] presentation.relations (head_bytes letters) book w.all (omega (arith, w.few_relations)) refl (omega arith) in
    rw a b
