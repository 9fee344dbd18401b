-- The definitions of reading a head and a relation, by the tests that the code makes.
use Prim.Native.Nat.{ℕ, ◌+◌, ◌-◌, ◌^◌, ◌≤◌, ◌<◌}
use mathlib.Core.Bool.{Bool, true, false, ◌||◌, cond}
use mathlib.Core.List.{List}
use mathlib.Core.Path.{◌≡◌, refl, sym, ap, ◌∙◌}
use native.Mathlib.Omega.{arith}
use borrow.Author.Rules.{rules}
use borrow.Author.Tests.{eq-eqb, ne_eqb, le-leb, lt-leb}
use lib.Dec.{ltb}
use lib.ListN.{length}
use mir.Syntax.{w64}
use mir.Val.{Fits}
use Rattle.std.specs.Prelude.{Option, Some, None, Result, Ok, Err}
use Rattle.words.specs.Words.{part}
use Rattle.words.proofs.Parts.{part_length}
use Rattle.limits.specs.declared.Record.{Record}
use Rattle.limits.specs.declared.Head.{Head}
use Rattle.limits.specs.declared.Relation.{Relation}
use Rattle.limits.specs.Limits.{head_of, relation_of, outside}
use Rattle.refusals.specs.declared.Refusal.{Refusal}
use Rattle.refusals.specs.declared.Refusal.TheVariants.{Short, Kind, Length, Range, UnknownLetter, TooMany}
use Rattle.words.specs.Letters.{unknown_in}
use Rattle.words.specs.Letters.{first_unknown}
use Rattle.format.specs.declared.RelationFields.{RelationFields}
use Rattle.format.specs.Book.{byte, record_at, head_at, fields_at, relation_at}
use Rattle.format.proofs.Readings.{whole_at}
use Rattle.records.specs.Reads.{Payload}

-- a whole record's payload lies in the book
pub payload_of : (book : List ℕ) (at : ℕ) (whole : Record) (o : Option Record) → o ≡ record_at book at → o ≡ Some whole → Payload book whole.from whole.to
payload_of book at whole o e f =
    let w = whole_at book at whole.kind whole.from whole.to (sym e ∙ f) in
    record { order = omega (arith, w.start, w.end); inside = w.fits }

-- what the constructors answer, as the test that the definition makes
head_outside : (x : ℕ) → head_of x ≡ None → outside 1 64 x ≡ true
unfolding head_of
head_outside x e = go (outside 1 64 x) e
  where
    go : (b : Bool) → cond {A = Option Head} b None (Some (record { letters = x })) ≡ None → b ≡ true
    go true q = refl
    go false q = absurd (let z : ◌≡◌ {A = ℕ} 0 1 = cc in omega arith)

head_inside : (x : ℕ) (h : Head) → head_of x ≡ Some h → (outside 1 64 x ≡ false) × (h.letters ≡ x)
unfolding head_of
head_inside x h e = go (outside 1 64 x) e
  where
    go : (b : Bool) → cond b None (Some (record { letters = x })) ≡ Some h → (b ≡ false) × (h.letters ≡ x)
    go true q = absurd (let z : ◌≡◌ {A = ℕ} 0 1 = cc in omega arith)
    go false q = let g : ◌≡◌ {A = Head} (record { letters = x }) h = cc in (refl, sym (ap (λ (y : Head). y.letters) g))

relation_outside : (m n : ℕ) → relation_of m n ≡ None → (outside 1 64 m || outside 1 64 n) ≡ true
unfolding relation_of
relation_outside m n e = go (outside 1 64 m || outside 1 64 n) e
  where
    go : (b : Bool) → cond {A = Option Relation} b None (Some (record { left = m; right = n })) ≡ None → b ≡ true
    go true q = refl
    go false q = absurd (let z : ◌≡◌ {A = ℕ} 0 1 = cc in omega arith)

relation_inside : (m n : ℕ) (r : Relation) → relation_of m n ≡ Some r → ((outside 1 64 m || outside 1 64 n) ≡ false) × (r.left ≡ m)
unfolding relation_of
relation_inside m n r e = go (outside 1 64 m || outside 1 64 n) e
  where
    go : (b : Bool) → cond b None (Some (record { left = m; right = n })) ≡ Some r → (b ≡ false) × (r.left ≡ m)
    go true q = absurd (let z : ◌≡◌ {A = ℕ} 0 1 = cc in omega arith)
    go false q = let g : ◌≡◌ {A = Relation} (record { left = m; right = n }) r = cc in (refl, sym (ap (λ (y : Relation). y.left) g))

module _ (place : ℕ) (book : List ℕ) (at : ℕ) (o : Option Record) (e : o ≡ record_at book at) where
  pub head_short : o ≡ None → Err (Short place) ≡ head_at 64 place book at
  unfolding head_at
  head_short f = rw (← e, f)

  pub relation_short : (letters count : ℕ) → o ≡ None → Err (Short place) ≡ relation_at letters count place book at
  unfolding relation_at
  relation_short letters count f = rw (← e, f)

  module _ (whole : Record) (f : o ≡ Some whole) where
    pub payload_order : whole.from ≤ whole.to
    payload_order = (payload_of book at whole o e f).order

    pub payload_byte : whole.to - whole.from ≡ 1 → whole.from < length book
    payload_byte h = let p = payload_of book at whole o e f in omega arith

    pub head_kind : (whole.kind ≡ 1 → ⊥) → Err (Kind place) ≡ head_at 64 place book at
    unfolding head_at
    head_kind k = rw (← e, f, ne_eqb whole.kind 1 k)

    pub head_length : whole.kind ≡ 1 → (whole.to - whole.from ≡ 1 → ⊥) → Err (Length place) ≡ head_at 64 place book at
    unfolding head_at
    head_length k l = rw (← e, f, eq-eqb whole.kind 1 k, ne_eqb (whole.to - whole.from) 1 l)

    module _ (k : whole.kind ≡ 1) (l : whole.to - whole.from ≡ 1) (made : Option Head) (m : made ≡ head_of (byte book whole.from)) where
      pub head_range : made ≡ None → Err (Range place) ≡ head_at 64 place book at
      unfolding head_at
      head_range g = rw (← e, f, eq-eqb whole.kind 1 k, eq-eqb (whole.to - whole.from) 1 l, head_outside (byte book whole.from) (sym m ∙ g))

      pub head_good : (h : Head) → made ≡ Some h → Ok (record { letters = h.letters; end = whole.to }) ≡ head_at 64 place book at
      unfolding head_at
      head_good h g = let i = head_inside (byte book whole.from) h (sym m ∙ g) in rw (← e, f, eq-eqb whole.kind 1 k, eq-eqb (whole.to - whole.from) 1 l, i.0, i.1)

    pub relation_kind : (letters count : ℕ) → (whole.kind ≡ 2 → ⊥) → Err (Kind place) ≡ relation_at letters count place book at
    unfolding relation_at
    relation_kind letters count k = rw (← e, f, ne_eqb whole.kind 2 k)

    pub relation_many : (letters count : ℕ) → whole.kind ≡ 2 → 32 ≤ count → Err (TooMany place) ≡ relation_at letters count place book at
    unfolding relation_at
    relation_many letters count k h = rw (← e, f, eq-eqb whole.kind 2 k, le-leb 32 count h)

    pub relation_fields : (letters count : ℕ) → whole.kind ≡ 2 → count < 32 → (r : Result RelationFields Refusal) → r ≡ fields_at letters place book whole.from whole.to → r ≡ relation_at letters count place book at
    unfolding relation_at
    relation_fields letters count k h r g = rw (← e, f, eq-eqb whole.kind 2 k, lt-leb 32 count h) g

pub ruleset heads = (head_short, head_kind, head_length, head_range, head_good, payload_order, payload_byte, rules)

pub ruleset relations = (relation_short, relation_kind, relation_many, relation_fields, payload_of, rules)

-- the fields of a relation
module _ (letters place : ℕ) (book : List ℕ) (from to : ℕ) (p : Payload book from to) where
  pub fields_none : to - from < 2 → Err (Length place) ≡ fields_at letters place book from to
  unfolding fields_at
  fields_none h = rw (ne_eqb (to - from) (2 + byte book from + byte book (from + 1)) (λ q. omega arith))

  module _ (m : ℕ) (v : m ≡ byte book from) (n : ℕ) (w : n ≡ byte book (from + 1)) where
    pub fields_length : (to - from ≡ 2 + m + n → ⊥) → Err (Length place) ≡ fields_at letters place book from to
    unfolding fields_at
    fields_length h = rw (← v, ← w, ne_eqb (to - from) (2 + m + n) h)

    module _ (l : to - from ≡ 2 + m + n) (made : Option Relation) (d : made ≡ relation_of m n) where
      pub fields_range : made ≡ None → Err (Range place) ≡ fields_at letters place book from to
      unfolding fields_at
      fields_range g = rw (← v, ← w, eq-eqb (to - from) (2 + m + n) l, relation_outside m n (sym d ∙ g))

      module _ (r : Relation) (g : made ≡ Some r) where
        fields_middle : from + 2 + r.left ≤ to
        fields_middle = let i = relation_inside m n r (sym d ∙ g) in omega (arith, i.1, p.order, l)

        pub fields_fits : to < 2 ^ 64 → Fits w64 (from + 2 + r.left)
        fields_fits h = record { fits = omega (arith, fields_middle) }

        pub fields_part : Payload book (from + 2) to
        fields_part = record { order = omega arith; inside = p.inside }

        module _ (u : Bool) (k : u ≡ unknown_in letters (part book (from + 2) to)) where
          pub fields_unknown : u ≡ true → Err (UnknownLetter place) ≡ fields_at letters place book from to
          unfolding fields_at
          fields_unknown h = rw (← v, ← w, eq-eqb (to - from) (2 + m + n) l, (relation_inside m n r (sym d ∙ g)).0, ← k, h)

          pub fields_good : u ≡ false → Ok (record { left = from + 2; right = from + 2 + r.left; end = to }) ≡ fields_at letters place book from to
          unfolding fields_at
          fields_good h =
              let i = relation_inside m n r (sym d ∙ g) in
              rw (← v, ← w, eq-eqb (to - from) (2 + m + n) l, i.0, i.1, ← k, h)

pub ruleset fieldsets = (fields_none, fields_length, fields_range, fields_fits, fields_part, fields_unknown, fields_good, rules)

-- some letter of a part is unknown
pub unknown_part : (letters : ℕ) (book : List ℕ) (from to known : ℕ) → Payload book from to → known ≡ first_unknown letters (part book from to)
    → ltb known (to - from) ≡ unknown_in letters (part book from to)
unknown_part letters book from to known p e = rw (part_length book from to p.inside, e)

pub ruleset unknowns = (unknown_part, rules)
