-- Which refusals reading gives: 1 to 6 of a record, at its place, which lies in the book or at its end.
use Prim.Native.Nat.{ℕ, zero, suc, ◌≤◌}
use mathlib.Core.Bool.{Bool, true, false, cond}
use mathlib.Core.List.{List, []}
use mathlib.Core.Path.{◌≡◌, refl}
use lib.Dec.{leb}
use lib.ListN.{length}
use native.Mathlib.Omega.{arith}
use Rattle.std.specs.Prelude.{Option, Some, None, Result, Ok, Err}
use Rattle.limits.specs.declared.Record.{Record}
use Rattle.limits.specs.Limits.{letters_most}
use Rattle.refusals.specs.declared.Refusal.{Refusal}
use Rattle.refusals.specs.declared.Refusal.TheVariants.{Short, Kind, Length, Range, UnknownLetter, TooMany}
use Rattle.refusals.specs.Refusals.{number_and_place}
use Rattle.format.specs.declared.HeadFields.{HeadFields}
use Rattle.format.specs.declared.RelationFields.{RelationFields}
use Rattle.format.specs.Book.{Presentation, adding, BookReading, read, refused, record_at, on_whole, head_at, fields_at, relation_at, addition_at, relation_in, on_head, on_relation, relations_from, read_book}
use Rattle.format.proofs.Readings.{whole_at}

-- the refusals of a record, which report a place
pub data RecordRefusal (place : ℕ) : Refusal → Type 0 where
  short_there : RecordRefusal place (Short place)
  kind_there : RecordRefusal place (Kind place)
  length_there : RecordRefusal place (Length place)
  range_there : RecordRefusal place (Range place)
  unknown_there : RecordRefusal place (UnknownLetter place)
  many_there : RecordRefusal place (TooMany place)

pub refusal_place : (place : ℕ) (r : Refusal) → RecordRefusal place r → (number_and_place r).place ≡ place
refusal_place place r RecordRefusal.short_there = refl
refusal_place place r RecordRefusal.kind_there = refl
refusal_place place r RecordRefusal.length_there = refl
refusal_place place r RecordRefusal.range_there = refl
refusal_place place r RecordRefusal.unknown_there = refl
refusal_place place r RecordRefusal.many_there = refl

-- what reading a record gives: its refusal, or a position up to n
pub data HeadUpto (n place : ℕ) : Result HeadFields Refusal → Type 0 where
  refused_at : {r : Refusal} → RecordRefusal place r → HeadUpto n place (Err r)
  read_to : {fields : HeadFields} → fields.end ≤ n → HeadUpto n place (Ok fields)

pub data RelationUpto (n place : ℕ) : Result RelationFields Refusal → Type 0 where
  refused_at : {r : Refusal} → RecordRefusal place r → RelationUpto n place (Err r)
  read_to : {fields : RelationFields} → fields.end ≤ n → RelationUpto n place (Ok fields)

head_cond : (n place : ℕ) (b : Bool) (x y : Result HeadFields Refusal) → HeadUpto n place x → HeadUpto n place y → HeadUpto n place (cond b x y)
head_cond n place true x y h k = h
head_cond n place false x y h k = k

relation_cond : (n place : ℕ) (b : Bool) (x y : Result RelationFields Refusal) → RelationUpto n place x → RelationUpto n place y → RelationUpto n place (cond b x y)
relation_cond n place true x y h k = h
relation_cond n place false x y h k = k

ruleset uptos = (head_cond, relation_cond, HeadUpto.refused_at, HeadUpto.read_to, RelationUpto.refused_at, RelationUpto.read_to, RecordRefusal.short_there, RecordRefusal.kind_there, RecordRefusal.length_there, RecordRefusal.range_there, RecordRefusal.unknown_there, RecordRefusal.many_there)

module _ (book : List ℕ) (at place : ℕ) where
  -- a record that is there, by its checks
  upto_whole : {A : Type 0} (P : A → Type 0) (none : A) (next : ℕ → ℕ → ℕ → A) → P none → ((kind from to : ℕ) → to ≤ length book → P (next kind from to)) → (o : Option Record)
      → record_at book at ≡ o → P (on_whole o none next)
  upto_whole P none next s f None e = s
  upto_whole P none next s f (Some whole) e = f whole.kind whole.from whole.to (whole_at book at whole.kind whole.from whole.to e).fits

  pub head_upto : (most : ℕ) → HeadUpto (length book) place (head_at most place book at)
  unfolding head_at
  head_upto most = upto_whole (HeadUpto (length book) place) _ _ (search uptos) (λ kind from to k. search uptos depth 8) (record_at book at) refl

  pub relation_upto : (letters count : ℕ) → RelationUpto (length book) place (relation_at letters count place book at)
  unfolding relation_at fields_at
  relation_upto letters count = upto_whole (RelationUpto (length book) place) _ _ (search uptos) (λ kind from to k. search uptos depth 8) (record_at book at) refl

-- one that is given apart from its book
pub addition_upto : (letters count place : ℕ) (bytes : List ℕ) → RelationUpto (length bytes) place (addition_at letters count place bytes)
unfolding addition_at fields_at
addition_upto letters count place bytes =
    upto_whole bytes 0 place (RelationUpto (length bytes) place) _ _ (search uptos) (λ kind from to k. search uptos depth 9) (record_at bytes 0) refl

-- what reading a book gives: the refusal of a record, at a place up to n, or a presentation
pub data BookUpto (n : ℕ) : BookReading → Type 0 where
  refused_at : {place : ℕ} {r : Refusal} → place ≤ n → RecordRefusal place r → BookUpto n (refused r)
  read_whole : {presentation : Presentation} → BookUpto n (read presentation)

relations_upto : (fuel : ℕ) (p : Presentation) (book : List ℕ) (at : ℕ) → at ≤ length book → BookUpto (length book) (relations_from fuel p book at)
unfolding relations_from
relations_upto zero p book at h = BookUpto.read_whole
relations_upto (suc fuel) p book at h =
    step (λ left right to. relations_upto fuel (adding p (relation_in book left right to)) book to) (leb (length book) at) (relation_at p.letters (length p.relations) at book at)
    (relation_upto book at at p.letters (length p.relations))
  where
    step : ((left right to : ℕ) → to ≤ length book → BookUpto (length book) (relations_from fuel (adding p (relation_in book left right to)) book to)) → (b : Bool)
        (o : Result RelationFields Refusal) → RelationUpto (length book) at o
        → BookUpto (length book) (cond b (read p) (on_relation o (λ left right to. relations_from fuel (adding p (relation_in book left right to)) book to)))
    step f true o k = BookUpto.read_whole
    step f false (Err r) (RelationUpto.refused_at k) = BookUpto.refused_at h k
    step f false (Ok fields) (RelationUpto.read_to k) = f fields.left fields.right fields.end k

pub book_upto : (book : List ℕ) → BookUpto (length book) (read_book book)
unfolding read_book
book_upto book = step (head_at letters_most 0 book 0) (head_upto book 0 0 letters_most)
  where
    step : (o : Result HeadFields Refusal) → HeadUpto (length book) 0 o
        → BookUpto (length book) (on_head o (λ letters to. relations_from (length book) (record { letters = letters; relations = [] }) book to))
    step (Err r) (HeadUpto.refused_at k) = BookUpto.refused_at {place = 0} (omega arith) k
    step (Ok fields) (HeadUpto.read_to k) = relations_upto (length book) (record { letters = fields.letters; relations = [] }) book fields.end k
