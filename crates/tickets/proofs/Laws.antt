-- The laws of a ticket's bytes: a byte that is not there, the part that is its record, its change by its kind, and the writings that are one.
use Prim.Native.Nat.{ℕ, ◌+◌, ◌-◌, ◌≤◌, ◌<◌, min}
use mathlib.Core.List.{List, ◌++◌}
use mathlib.Core.Path.{◌≡◌, sym, ap, ◌∙◌}
use mathlib.Core.Logic.{◌≢◌}
use native.Mathlib.Omega.{arith}
use borrow.Author.Rules.{rules}
use borrow.Author.Tests.{eq-eqb, ne_eqb}
use lib.ListN.{length, take, drop, length-take, length-drop, get_or-eq_default}
use mir.Syntax.{w64}
use mir.Val.{Fits}
use Rattle.words.specs.Writing.{written, over}
use Rattle.writing.proofs.Writing.{over_kept, written_zero, written_behind}
use Rattle.limits.specs.Limits.{ticket_changes_at, ticket_kind_at, ticket_number_at, ticket_prefix, addition_kind, withdrawal_kind}
use Rattle.format.specs.Book.{byte, field}
use Rattle.format.specs.Bytes.{field_bytes}
use Rattle.held.specs.declared.Asked.{Asked}
use Rattle.held.specs.declared.Asked.TheVariants.{Addition, Withdrawal}
use Rattle.held.specs.Asked.{change_asked}
use Rattle.held.specs.Tickets.{fields_of, ticket_bytes, record_in, change_in}
use Rattle.holding.proofs.Laws.{part_whole}
use Rattle.tickets.specs.Tickets.{FieldsWritable, TicketWritable}

-- a byte that is not there is read as 0
pub byte_none : (ticket : List ℕ) (at : ℕ) → length ticket ≤ at → 0 ≡ byte ticket at
byte_none ticket at h = sym (get_or-eq_default ticket 0 {n = at} h)

pub ruleset bytes = (byte_none, rules)

-- the record as a part of the ticket
module _ (ticket : List ℕ) (start number n : ℕ) (e : start ≡ min ticket_prefix (length ticket)) (f : number ≡ field ticket ticket_number_at)
    (g : n ≡ min number (length ticket - start)) where
  -- it has as many bytes as the code finds
  record_long : n ≡ length (record_in ticket)
  unfolding record_in
  record_long = omega (arith, length-take (field ticket ticket_number_at) (drop ticket_prefix ticket), length-drop ticket_prefix ticket)

  -- it ends in the ticket
  pub record_fits : start + n ≤ length ticket
  record_fits = omega arith

  -- its end is a number of the machine
  pub record_counted : Fits w64 (length ticket) → Fits w64 (start + n)
  record_counted h = omega (arith, record_fits)

  -- the part is the record
  pub record_part : take (start + n - start) (drop start ticket) ≡ record_in ticket
  unfolding record_in
  record_part = part_whole ticket ticket_prefix (field ticket ticket_number_at) start n e record_long

pub ruleset parts = (record_fits, record_counted, record_part, rules)

-- the change of a ticket by its kind
module _ (ticket : List ℕ) (kind : ℕ) (e : kind ≡ field ticket ticket_kind_at) where
  -- the kind of additions
  pub asked_addition : kind ≡ addition_kind → change_asked Addition (record_in ticket) ≡ change_in ticket
  unfolding change_in
  asked_addition h = rw (eq-eqb (field ticket ticket_kind_at) addition_kind (sym e ∙ h))

  -- every other kind
  pub asked_withdrawal : (i : ℕ) → kind ≢ addition_kind → i ≡ field ticket ticket_number_at
      → change_asked (Withdrawal i) (record_in ticket) ≡ change_in ticket
  unfolding change_in
  asked_withdrawal i h f = rw (ne_eqb (field ticket ticket_kind_at) addition_kind (λ g. h (e ∙ g)), f)

pub ruleset kinds = (asked_addition, asked_withdrawal, rules)

-- the three fields, written one behind the other
module _ (changes kind number : ℕ) (ticket : List ℕ) (h : FieldsWritable changes kind number ticket) where
  pub fields_whole : (c k n : ℕ) (a b d : List ℕ) → c ≡ changes → a ≡ written ticket_changes_at (field_bytes c) ticket → k ≡ kind
      → b ≡ written ticket_kind_at (field_bytes k) a → n ≡ number → d ≡ written ticket_number_at (field_bytes n) b → d ≡ over (fields_of changes kind number) ticket
  fields_whole c k n a b d e p f q g r =
      r ∙ rw (q, p, e, f, g)
      (ap (written ticket_number_at (field_bytes number))
      (written_behind ticket_changes_at (field_bytes changes) (field_bytes kind) ticket ticket_kind_at (omega arith) (omega (arith, h.room)))
      ∙ written_behind ticket_changes_at (field_bytes changes ++ field_bytes kind) (field_bytes number) ticket ticket_number_at (omega arith) (omega (arith, h.room))
      ∙ written_zero (fields_of changes kind number) ticket)

-- the writing of a ticket
module _ (changes : ℕ) (asked : Asked) (bytes ticket : List ℕ) (h : TicketWritable changes (change_asked asked bytes) ticket) where
  -- an addition: its fields can be written, whatever the kind
  pub addition_fields : (kind : ℕ) → kind < 65536 → asked ≡ Addition → FieldsWritable changes kind (length bytes) ticket
  addition_fields kind k e =
      let w = rw e at h in
      record { counted = w.counted; known = k; small = w.small; room = omega (arith, h.room) }

  -- and there is room for its bytes, behind them and before
  pub addition_room : (at kind : ℕ) (b : List ℕ) → at ≤ ticket_prefix → asked ≡ Addition → b ≡ over (fields_of changes kind (length bytes)) ticket
      → at + length bytes ≤ length b
  addition_room at kind b l e p =
      let w = rw e at h in
      rw p (omega (arith, over_kept (fields_of changes kind (length bytes)) ticket (omega (arith, h.room)), w.fits, h.room))

  -- both are the ticket
  pub addition_whole : (b d : List ℕ) → asked ≡ Addition → b ≡ over (fields_of changes addition_kind (length bytes)) ticket → d ≡ written ticket_prefix bytes b
      → d ≡ over (ticket_bytes changes (change_asked asked bytes)) ticket
  addition_whole b d e p q =
      let f = fields_of changes addition_kind (length bytes) in
      q ∙ rw (p, e)
      (ap (written ticket_prefix bytes) (sym (written_zero f ticket))
      ∙ written_behind 0 f bytes ticket ticket_prefix (omega arith) (omega (arith, h.room))
      ∙ written_zero (f ++ bytes) ticket)

  -- a withdrawal: its fields can be written, whatever the kind
  pub withdrawal_fields : (kind i : ℕ) → kind < 65536 → asked ≡ Withdrawal i → FieldsWritable changes kind i ticket
  withdrawal_fields kind i k e =
      let w = rw e at h in
      record { counted = w.counted; known = k; small = w.small; room = omega (arith, h.room) }

  -- they are the ticket
  pub withdrawal_whole : (i : ℕ) (b : List ℕ) → asked ≡ Withdrawal i → b ≡ over (fields_of changes withdrawal_kind i) ticket
      → b ≡ over (ticket_bytes changes (change_asked asked bytes)) ticket
  withdrawal_whole i b e p = rw e p

pub ruleset writings = (addition_fields, addition_room, addition_whole, withdrawal_fields, withdrawal_whole, rules)
