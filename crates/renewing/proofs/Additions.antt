-- The definition of reading a relation that is given apart from its book, by the tests that the code makes.
use Prim.Native.Nat.{ℕ, ◌≤◌, ◌<◌}
use mathlib.Core.List.{List}
use mathlib.Core.Path.{◌≡◌, ap, ◌∙◌}
use borrow.Author.Rules.{rules}
use borrow.Author.Tests.{eq-eqb, ne_eqb, lt-ltb, le-ltb, le-leb, lt-leb}
use lib.ListN.{length}
use Rattle.std.specs.Prelude.{Option, Some, None, Result, Err}
use Rattle.limits.specs.declared.Record.{Record}
use Rattle.refusals.specs.declared.Refusal.TheVariants.{Short, Kind, Length, TooMany}
use Rattle.format.specs.declared.RelationFields.{RelationFields}
use Rattle.format.specs.Book.{record_at, fields_at, addition_at}
use Rattle.relations.proofs.Fields.{payload_of}
use Rattle.held.specs.Held.{book_in}
use Rattle.refusals.specs.declared.Refusal.{Refusal}

-- its record begins at 0
module _ (letters count place : ℕ) (bytes : List ℕ) (o : Option Record) (e : o ≡ record_at bytes 0) where
  -- no whole record
  pub addition_short : o ≡ None → Err (Short place) ≡ addition_at letters count place bytes
  unfolding addition_at
  addition_short f = rw (← e, f)

  module _ (whole : Record) (f : o ≡ Some whole) where
    -- a record of another kind
    pub addition_kind : (whole.kind ≡ 2 → ⊥) → Err (Kind place) ≡ addition_at letters count place bytes
    unfolding addition_at
    addition_kind k = rw (← e, f, ne_eqb whole.kind 2 k)

    module _ (k : whole.kind ≡ 2) where
      -- one relation too many
      pub addition_many : 32 ≤ count → Err (TooMany place) ≡ addition_at letters count place bytes
      unfolding addition_at
      addition_many h = rw (← e, f, eq-eqb whole.kind 2 k, le-leb 32 count h)

      -- bytes behind the record
      pub addition_behind : count < 32 → whole.to < length bytes → Err (Length place) ≡ addition_at letters count place bytes
      unfolding addition_at
      addition_behind h l = rw (← e, f, eq-eqb whole.kind 2 k, lt-leb 32 count h, lt-ltb whole.to (length bytes) l)

      -- else its fields decide
      pub addition_fields : count < 32 → length bytes ≤ whole.to → (r : Result RelationFields Refusal) → r ≡ fields_at letters place bytes whole.from whole.to → r ≡ addition_at letters count place bytes
      unfolding addition_at
      addition_fields h l r g = rw (← e, f, eq-eqb whole.kind 2 k, lt-leb 32 count h, le-ltb whole.to (length bytes) l) g

pub ruleset additions = (addition_short, addition_kind, addition_many, addition_behind, addition_fields, payload_of, rules)

-- its place is the length of the book that is held
pub record_placed : (held bytes : List ℕ) (letters count : ℕ) (book : List ℕ) → book ≡ book_in held → (r : Result RelationFields Refusal) → r ≡ addition_at letters count (length book) bytes
    → r ≡ addition_at letters count (length (book_in held)) bytes
record_placed held bytes letters count book e r f = f ∙ ap (λ (s : List ℕ). addition_at letters count (length s) bytes) e

pub ruleset placings = (record_placed, rules)
