-- The loop over a book's records: what it knows at its head, and a law for each way on.
use Prim.Native.Nat.{ℕ, zero, suc, ◌+◌, ◌-◌, ◌≤◌, ◌<◌}
use mathlib.Core.List.{List, []}
use mathlib.Core.Path.{◌≡◌, refl, sym, ◌∙◌}
use native.Mathlib.Omega.{arith}
use borrow.Author.Rules.{rules}
use borrow.Author.Tests.{le-leb, lt-leb}
use lib.ListN.{length, length-append}
use Rattle.std.specs.Prelude.{Result, Ok, Err}
use Rattle.limits.specs.Limits.{letters_most, relations_most}
use Rattle.refusals.specs.declared.Refusal.{Refusal}
use Rattle.format.specs.declared.HeadFields.{HeadFields}
use Rattle.format.specs.declared.RelationFields.{RelationFields}
use Rattle.format.specs.Book.{Presentation, adding, read, refused, head_at, relation_at, relation_in, relations_from, read_book, reading_of}
use Rattle.format.proofs.Readings.{RelationRead, relation_read}

-- the book up to `at` is read: the rest, with the presentation so far, gives what the whole book gives
pub record Going (book : List ℕ) (letters at count : ℕ) : Type 0 where
  pub presentation : Presentation
  pub lettered : letters ≡ presentation.letters
  pub counted : count ≡ length presentation.relations
  pub few : count ≤ relations_most
  pub fuel : ℕ
  pub enough : length book ≤ at + fuel
  pub same : read_book book ≡ relations_from fuel presentation book at

-- the head of a book
module _ (book : List ℕ) (head : Result HeadFields Refusal) (e : head ≡ head_at letters_most 0 book 0) where
  -- its refusal is the book's
  pub head_refused : (x : Refusal) → head ≡ Err x → Err x ≡ reading_of (read_book book)
  unfolding read_book
  head_refused x f = rw (← e, f)

  -- behind it no relation is read yet
  pub going_start : (fields : HeadFields) → head ≡ Ok fields → Going book fields.letters fields.end 0
  unfolding read_book
  going_start fields f =
      record {
        presentation = record { letters = fields.letters; relations = [] };
        lettered = refl;
        counted = refl;
        few = omega arith;
        fuel = length book;
        enough = omega arith;
        same = rw (← e, f);
      }

-- the definition's turn at the end of the book
pub from_end : (fuel : ℕ) (p : Presentation) (book : List ℕ) (at : ℕ) → length book ≤ at → relations_from fuel p book at ≡ read p
unfolding relations_from
from_end zero p book at h = refl
from_end (suc fuel) p book at h = rw (le-leb (length book) at h)

module _ (p : Presentation) (book : List ℕ) (at : ℕ) (h : at < length book) where
  -- its turn at a refusal
  pub from_refused : (fuel : ℕ) → length book ≤ at + fuel → (r : Refusal) → relation_at p.letters (length p.relations) at book at ≡ Err r
      → relations_from fuel p book at ≡ refused r
  unfolding relations_from
  from_refused zero k r e = absurd (omega arith)
  from_refused (suc fuel) k r e = rw (lt-leb (length book) at h, e)

  -- its turn over one relation
  pub from_more : (fuel : ℕ) → length book ≤ at + fuel → (left right to : ℕ)
      → relation_at p.letters (length p.relations) at book at ≡ Ok (record { left = left; right = right; end = to })
      → (f : ℕ) × (fuel ≡ suc f) × (relations_from fuel p book at ≡ relations_from f (adding p (relation_in book left right to)) book to)
  unfolding relations_from
  from_more zero k left right to e = absurd (omega arith)
  from_more (suc fuel) k left right to e = (fuel, refl, rw (lt-leb (length book) at h, e))

-- the loop's ways on
module _ (book : List ℕ) (letters at count : ℕ) (g : Going book letters at count) where
  -- the book ends
  pub going_end : length book ≤ at → Ok (record { letters = letters; relations = count }) ≡ reading_of (read_book book)
  going_end h =
      let b : read_book book ≡ read g.presentation = g.same ∙ from_end g.fuel g.presentation book at h in
      rw (b, g.counted, g.lettered)

  module _ (h : at < length book) (r : Result RelationFields Refusal) (e : r ≡ relation_at letters count at book at) where
    -- the next relation is the one that the definition reads
    here : r ≡ relation_at g.presentation.letters (length g.presentation.relations) at book at
    here = rw (← g.counted, ← g.lettered) e

    -- its refusal is the book's
    pub going_refused : (x : Refusal) → r ≡ Err x → Err x ≡ reading_of (read_book book)
    going_refused x f =
        let b : read_book book ≡ refused x = g.same ∙ from_refused g.presentation book at h g.fuel g.enough x (sym here ∙ f) in
        rw b

    module _ (fields : RelationFields) (f : r ≡ Ok fields) where
      -- what its record says
      read_here : RelationRead letters count book at fields.left fields.right fields.end
      read_here = relation_read letters count at book at fields.left fields.right fields.end (sym e ∙ f)

      -- fewer bytes are behind it
      pub going_less : length book - fields.end < length book - at
      going_less = let q = read_here in omega (arith, q.behind, q.left_some, q.right_some, q.fits)

      -- it is one relation more
      pub going_more : Going book letters fields.end (count + 1)
      going_more =
          let q = read_here in
          let t = from_more g.presentation book at h g.fuel g.enough fields.left fields.right fields.end (sym here ∙ f) in
          record {
            presentation = adding g.presentation (relation_in book fields.left fields.right fields.end);
            lettered = g.lettered;
            counted = simp length-append (omega (arith, g.counted));
            few = omega (arith, q.room);
            fuel = t.0;
            enough = omega (arith, q.behind, q.left_some, q.right_some, g.enough, t.1);
            same = g.same ∙ t.2;
          }

pub ruleset goings = (head_refused, going_start, going_end, going_refused, going_less, going_more, rules)
