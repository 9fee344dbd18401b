-- What a record that was read says, that what is read lies within the limits, and that the fuel of the definition suffices.
use Prim.Native.Nat.{ℕ, zero, suc, ◌+◌, ◌-◌, ◌≤◌, ◌<◌}
use mathlib.Core.Bool.{Bool, true, false, ◌||◌, cond}
use mathlib.Core.List.{List, [], ◌∷◌, ◌++◌}
use mathlib.Core.Path.{◌≡◌, refl, sym, ap, subst}
use native.Mathlib.Omega.{arith}
use lib.Dec.{eqb, leb, ltb}
use lib.ListN.{length, get_or, length-append}
use borrow.Author.Tests.{eqb-true, not-false, ltb-false, leb-false, le-leb}
use Rattle.std.specs.Prelude.{Option, Some, None, Result, Ok, Err}
use Rattle.words.specs.Words.{part}
use Rattle.words.specs.Relations.{Relation}
use Rattle.words.proofs.Tests.{or_neither}
use Rattle.words.proofs.Parts.{part_length, part_at}
use Rattle.limits.specs.declared.Record.{Record}
use Rattle.limits.specs.Limits.{letters_most, relations_most, side_most, outside}
use Rattle.refusals.specs.declared.Refusal.{Refusal}
use Rattle.words.specs.Letters.{unknown_in}
use Rattle.words.specs.Letters.{first_unknown}
use Rattle.letters.proofs.Letters.{known_of}
use Rattle.format.specs.declared.HeadFields.{HeadFields}
use Rattle.format.specs.declared.RelationFields.{RelationFields}
use Rattle.format.specs.Book.{Presentation, adding, read, byte, field, record_at, on_whole, differs, head_at, fields_at, relation_at, relation_in, on_head, on_relation, relations_from, read_book, FuelSuffices}
use Rattle.format.specs.Bytes.{RelationWithin, AllWithin, none, more, Within, ReadWithin}

-- a check that was passed: what is given was not the answer for its failure
pub passed : {A : Type 0} (b : Bool) (stop x good : A) → (stop ≡ good → ⊥) → cond b stop x ≡ good → (b ≡ false) × (x ≡ good)
passed true stop x good f e = absurd (f e)
passed false stop x good f e = (refl, e)

cut_or_whole : (kind from to : ℕ) → ◌≡◌ {A = Option Record} None (Some (record { kind = kind; from = from; to = to })) → ⊥
cut_or_whole kind from to e = let z : ◌≡◌ {A = ℕ} 0 1 = cc in omega arith

pub head_or_refused : (letters to : ℕ) (r : Refusal) → ◌≡◌ {A = Result HeadFields Refusal} (Err r) (Ok (record { letters = letters; end = to })) → ⊥
head_or_refused letters to r e = let z : ◌≡◌ {A = ℕ} 0 1 = cc in omega arith

pub relation_or_refused : (left right to : ℕ) (r : Refusal) → ◌≡◌ {A = Result RelationFields Refusal} (Err r) (Ok (record { left = left; right = right; end = to })) → ⊥
relation_or_refused left right to r e = let z : ◌≡◌ {A = ℕ} 0 1 = cc in omega arith

-- records, and the fields that were read of them, are the same part by part
pub whole_parts : (a b : Record) → ◌≡◌ {A = Option Record} (Some a) (Some b) → (a.kind ≡ b.kind) × (a.from ≡ b.from) × (a.to ≡ b.to)
whole_parts a b e = let q : a ≡ b = cc in (ap (λ (r : Record). r.kind) q, ap (λ (r : Record). r.from) q, ap (λ (r : Record). r.to) q)

pub head_parts : (a b : HeadFields) → ◌≡◌ {A = Result HeadFields Refusal} (Ok a) (Ok b) → (a.letters ≡ b.letters) × (a.end ≡ b.end)
head_parts a b e = let q : a ≡ b = cc in (ap (λ (r : HeadFields). r.letters) q, ap (λ (r : HeadFields). r.end) q)

pub relation_parts : (a b : RelationFields) → ◌≡◌ {A = Result RelationFields Refusal} (Ok a) (Ok b)
    → (a.left ≡ b.left) × (a.right ≡ b.right) × (a.end ≡ b.end)
relation_parts a b e =
    let q : a ≡ b = cc in
    (ap (λ (r : RelationFields). r.left) q, ap (λ (r : RelationFields). r.right) q, ap (λ (r : RelationFields). r.end) q)

-- numbers that do not differ are equal
pub equal_of : (m n : ℕ) → differs m n ≡ false → m ≡ n
equal_of m n e = eqb-true m n (not-false (eqb m n) e)

inside_of : (least most x : ℕ) → outside least most x ≡ false → (least ≤ x) × (x ≤ most)
inside_of least most x e = let r = or_neither (ltb x least) (ltb most x) e in (ltb-false x least r.0, ltb-false most x r.1)

-- a whole record lies in the book
pub record WholeAt (book : List ℕ) (at kind from to : ℕ) : Type 0 where
  pub kinds : kind ≡ field book (at + 2)
  pub start : from ≡ at + 4
  pub end : to ≡ at + 4 + field book at
  pub fits : to ≤ length book

pub whole_at : (book : List ℕ) (at kind from to : ℕ) → record_at book at ≡ Some (record { kind = kind; from = from; to = to }) → WholeAt book at kind from to
unfolding record_at
whole_at book at kind from to e =
    let a = passed (ltb (length book) (at + 4)) _ _ _ (cut_or_whole kind from to) e in
    let b = passed (ltb (length book) (at + 4 + field book at)) _ _ _ (cut_or_whole kind from to) a.1 in
    let f = ltb-false (length book) (at + 4 + field book at) b.0 in
    let q = whole_parts _ _ b.1 in
    let g : to ≡ at + 4 + field book at = sym q.2 in
    record { kinds = sym q.0; start = sym q.1; end = g; fits = omega arith }

pub passed_whole : {A : Type 0} (o : Option Record) (short : A) (next : ℕ → ℕ → ℕ → A) (good : A) → (short ≡ good → ⊥) → on_whole o short next ≡ good
    → (kind : ℕ) × (from : ℕ) × (to : ℕ) × (o ≡ Some (record { kind = kind; from = from; to = to })) × (next kind from to ≡ good)
passed_whole None short next good f e = absurd (f e)
passed_whole (Some whole) short next good f e = (whole.kind, whole.from, whole.to, refl, e)

-- a head that was read
pub record HeadRead (most : ℕ) (book : List ℕ) (at letters to : ℕ) : Type 0 where
  pub some : 1 ≤ letters
  pub few : letters ≤ most
  pub behind : at < to
  pub fits : to ≤ length book

pub head_read : (most place : ℕ) (book : List ℕ) (at letters to : ℕ) → head_at most place book at ≡ Ok (record { letters = letters; end = to }) → HeadRead most book at letters to
unfolding head_at
head_read most place book at letters to e =
    let other = head_or_refused letters to in
    let a = passed_whole (record_at book at) _ _ _ (other _) e in
    let w = whole_at book at a.0 a.1 a.2 a.3 in
    let b = passed (differs a.0 1) _ _ _ (other _) a.4 in
    let c = passed (differs (a.2 - a.1) 1) _ _ _ (other _) b.1 in
    let d = passed (outside 1 most (byte book a.1)) _ _ _ (other _) c.1 in
    let l = equal_of (a.2 - a.1) 1 c.0 in
    let r = inside_of 1 most (byte book a.1) d.0 in
    let v = head_parts _ _ d.1 in
    let x : byte book a.1 ≡ letters = v.0 in
    let y : a.2 ≡ to = v.1 in
    record { some = omega arith; few = omega arith; behind = omega (arith, w.start); fits = omega (arith, w.fits) }

-- a relation that was read: where its words lie, both within the limits
pub record RelationRead (letters count : ℕ) (book : List ℕ) (at left right to : ℕ) : Type 0 where
  pub room : count < relations_most
  pub behind : at < left
  pub left_some : left < right
  pub left_short : right ≤ left + side_most
  pub right_some : right < to
  pub right_short : to ≤ right + side_most
  pub fits : to ≤ length book
  pub known : (q : ℕ) → left ≤ q → q < to → byte book q < letters

pub relation_read : (letters count place : ℕ) (book : List ℕ) (at left right to : ℕ) → relation_at letters count place book at ≡ Ok (record { left = left; right = right; end = to })
    → RelationRead letters count book at left right to
unfolding relation_at fields_at
relation_read letters count place book at left right to e =
    let other = relation_or_refused left right to in
    let a = passed_whole (record_at book at) _ _ _ (other _) e in
    let w = whole_at book at a.0 a.1 a.2 a.3 in
    let b = passed (differs a.0 2) _ _ _ (other _) a.4 in
    let c = passed (leb 32 count) _ _ _ (other _) b.1 in
    let d = passed (differs (a.2 - a.1) (2 + byte book a.1 + byte book (a.1 + 1))) _ _ _ (other _) c.1 in
    let f = passed (outside 1 64 (byte book a.1) || outside 1 64 (byte book (a.1 + 1))) _ _ _ (other _) d.1 in
    let g = passed (unknown_in letters (part book (a.1 + 2) a.2)) _ _ _ (other _) f.1 in
    let o = or_neither (outside 1 64 (byte book a.1)) (outside 1 64 (byte book (a.1 + 1))) f.0 in
    let l = equal_of (a.2 - a.1) (2 + byte book a.1 + byte book (a.1 + 1)) d.0 in
    let p = inside_of 1 64 (byte book a.1) o.0 in
    let q = inside_of 1 64 (byte book (a.1 + 1)) o.1 in
    let v = relation_parts _ _ g.1 in
    let x : a.1 + 2 ≡ left = v.0 in
    let y : a.1 + 2 + byte book a.1 ≡ right = v.1 in
    let z : a.2 ≡ to = v.2 in
    let k = leb-false 32 count c.0 in
    let n = part_length book (a.1 + 2) a.2 (omega (arith, w.fits)) in
    let u = known_of letters (part book (a.1 + 2) a.2) (ltb-false (first_unknown letters (part book (a.1 + 2) a.2)) (length (part book (a.1 + 2) a.2)) g.0) in
    record {
      room = omega arith;
      behind = omega (arith, w.start);
      left_some = omega arith;
      left_short = omega arith;
      right_some = omega arith;
      right_short = omega arith;
      fits = omega (arith, w.fits);
      known = λ i lo hi.
          let s = part_at book (a.1 + 2) a.2 (i - left) (omega arith) in
          let v = u (i - left) (omega arith) in
          let t : a.1 + 2 + (i - left) ≡ i = omega arith in
          subst (λ (j : ℕ). get_or book j 0 < letters) t (subst (λ (t : ℕ). t < letters) s v);
    }

-- the relation in the record is within the limits
pub relation_within : (letters count : ℕ) (book : List ℕ) (at left right to : ℕ) → RelationRead letters count book at left right to
    → RelationWithin letters (relation_in book left right to)
relation_within letters count book at left right to r =
    let l = part_length book left right (omega arith) in
    let k = part_length book right to (omega arith) in
    record {
      left = record {
        some = omega arith;
        short = omega arith;
        known = λ i h. subst (λ (t : ℕ). t < letters) (sym (part_at book left right i (omega arith))) (r.known (left + i) (omega arith) (omega arith));
      };
      right = record {
        some = omega arith;
        short = omega arith;
        known = λ i h. subst (λ (t : ℕ). t < letters) (sym (part_at book right to i (omega arith))) (r.known (right + i) (omega arith) (omega arith));
      };
    }

pub within_snoc : {letters : ℕ} {rs : List Relation} {r : Relation} → AllWithin letters rs → RelationWithin letters r → AllWithin letters (rs ++ (r ∷ []))
within_snoc none w = more w none
within_snoc (more v a) w = more v (within_snoc a w)

-- one relation more is still within the limits
pub within_more : (presentation : Presentation) (book : List ℕ) (at left right to : ℕ) → Within presentation
    → RelationRead presentation.letters (length presentation.relations) book at left right to
    → Within (adding presentation (relation_in book left right to))
within_more presentation book at left right to w r =
    record {
      some = w.some;
      few = w.few;
      few_relations = simp length-append (omega (arith, r.room));
      all = within_snoc w.all (relation_within presentation.letters (length presentation.relations) book at left right to r);
    }

same_read : (p q : Presentation) → read p ≡ read q → Within p → Within q
same_read p q e w = let x : p ≡ q = cc in subst (λ (t : Presentation). Within t) x w

from_within : (fuel : ℕ) (presentation : Presentation) (book : List ℕ) (at : ℕ) (last : Presentation) → Within presentation
    → relations_from fuel presentation book at ≡ read last → Within last
unfolding relations_from
from_within zero presentation book at last w e = same_read presentation last e w
from_within (suc fuel) presentation book at last w e =
    go (leb (length book) at) (relation_at presentation.letters (length presentation.relations) at book at) refl e (λ left right to.
    from_within fuel (adding presentation (relation_in book left right to)) book to last)
  where
    go : (b : Bool) (o : Result RelationFields Refusal) → relation_at presentation.letters (length presentation.relations) at book at ≡ o
        → cond b (read presentation) (on_relation o (λ left right to. relations_from fuel (adding presentation (relation_in book left right to)) book to)) ≡ read last
        → ((left right to : ℕ) → Within (adding presentation (relation_in book left right to))
        → relations_from fuel (adding presentation (relation_in book left right to)) book to ≡ read last → Within last)
        → Within last
    go true o q e r = same_read presentation last e w
    go false (Err x) q e r = absurd (let z : ◌≡◌ {A = ℕ} 0 1 = cc in omega arith)
    go false (Ok fields) q e r =
        r fields.left fields.right fields.end (within_more presentation book at fields.left fields.right fields.end w (relation_read presentation.letters (length presentation.relations) at book at fields.left fields.right fields.end q)) e

-- a head with no relations yet
pub within_head : (most : ℕ) (book : List ℕ) (at letters to : ℕ) → most ≤ letters_most → HeadRead most book at letters to
    → Within (record { letters = letters; relations = [] })
within_head most book at letters to h r = record { some = r.some; few = omega arith; few_relations = omega arith; all = none }

pub read_within : ReadWithin
unfolding read_book
read_within book presentation e = go (head_at 64 0 book 0) refl e
  where
    go : (o : Result HeadFields Refusal) → head_at 64 0 book 0 ≡ o
        → on_head o (λ letters to. relations_from (length book) (record { letters = letters; relations = [] }) book to) ≡ read presentation → Within presentation
    go (Err x) q e = absurd (let z : ◌≡◌ {A = ℕ} 0 1 = cc in omega arith)
    go (Ok fields) q e =
        from_within (length book) (record { letters = fields.letters; relations = [] }) book fields.end presentation (within_head 64 book 0 fields.letters fields.end (omega arith) (head_read 64 0 book 0 fields.letters fields.end q)) e

pub fuel_suffices : FuelSuffices
unfolding relations_from
fuel_suffices zero zero presentation book at h l = refl
fuel_suffices zero (suc larger) presentation book at h l = rw (le-leb (length book) at (omega arith))
fuel_suffices (suc fuel) zero presentation book at h l = absurd (omega arith)
fuel_suffices (suc fuel) (suc larger) presentation book at h l =
    go (leb (length book) at) (relation_at presentation.letters (length presentation.relations) at book at) refl (λ left right to k.
    fuel_suffices fuel larger (adding presentation (relation_in book left right to)) book to k (omega arith))
  where
    go : (b : Bool) (o : Result RelationFields Refusal) → relation_at presentation.letters (length presentation.relations) at book at ≡ o
        → ((left right to : ℕ) → length book ≤ to + fuel
        → relations_from larger (adding presentation (relation_in book left right to)) book to ≡ relations_from fuel (adding presentation (relation_in book left right to)) book to)
        → cond b (read presentation) (on_relation o (λ left right to. relations_from larger (adding presentation (relation_in book left right to)) book to))
        ≡ cond b (read presentation) (on_relation o (λ left right to. relations_from fuel (adding presentation (relation_in book left right to)) book to))
    go true o q f = refl
    go false (Err x) q f = refl
    go false (Ok fields) q f =
        let r = relation_read presentation.letters (length presentation.relations) at book at fields.left fields.right fields.end q in
        f fields.left fields.right fields.end (omega (arith, r.behind, r.left_some, r.right_some))
