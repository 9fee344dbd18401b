-- A law for each way that loading a held book and posting a ticket can go.
use Prim.Native.Nat.{ℕ, ◌<◌, ◌≤◌}
use mathlib.Core.List.{List}
use mathlib.Core.Path.{◌≡◌, sym, ap, ◌∙◌}
use native.Mathlib.Omega.{arith}
use borrow.Author.Rules.{rules}
use borrow.Author.Tests.{lt-ltb, le-ltb, le-leb, lt-leb, eq-eqb, ne_eqb}
use lib.ListN.{length, get_or}
use mir.Syntax.{w8}
use mir.Val.{Fits}
use Rattle.std.specs.Prelude.{Result, Ok, Err}
use Rattle.limits.specs.Limits.{book_most, held_room, changes_most, held_buffer}
use Rattle.refusals.specs.declared.Refusal.{Refusal}
use Rattle.refusals.specs.declared.Refusal.TheVariants.{Narrow, StaleTicket, BookWorn}
use Rattle.format.specs.Book.{Presentation, read}
use Rattle.format.specs.Bytes.{AreBytes}
use Rattle.format.proofs.Unique.{bytes_unique}
use Rattle.format.proofs.Lengths.{bytes_few}
use Rattle.loading.specs.Loading.{load_book}
use Rattle.answers.specs.Answers.{accepted, of_verdict}
use Rattle.answers.specs.Entries.{check_of}
use Rattle.held.specs.declared.Asked.{Asked}
use Rattle.held.specs.Held.{changes_told, holding}
use Rattle.held.specs.Changes.{LoadOutcome, load_of, ChangeOutcome, change_of}
use Rattle.held.specs.Asked.{change_asked}
use Rattle.held.specs.Tickets.{count_in, record_in, change_in, post_of}
use Rattle.held.proofs.Effects.{change_fresh}
use Rattle.held.proofs.Steps.{loaded_read, loaded_within}
use Rattle.settling.proofs.Checks.{accepted_loaded, refused_loaded}

-- a loaded book has no more bytes than can be held
loaded_few : (book : List ℕ) (p : Presentation) → AreBytes book → load_book book ≡ read p → length book ≤ book_most
loaded_few book p b e = omega (arith, ap length (bytes_unique book p b (loaded_read book p e).0), bytes_few p (loaded_within book p e))

-- loading a held book, by the check of its book
module _ (book held : List ℕ) where
  -- a refused book goes straight back
  pub load_refused : (r : Refusal) → of_verdict (Err r) ≡ check_of book → LoadOutcome.after (of_verdict (Err r)) held ≡ load_of book held
  unfolding load_of
  load_refused r e = let (x, f, d) = refused_loaded book r e in rw (f, d)

  module _ (n : ℕ) (e : of_verdict (Ok n) ≡ check_of book) where
    -- the buffer is below the room of a held book
    pub load_narrow : length held < held_room → LoadOutcome.after (of_verdict (Err (Narrow held_buffer))) held ≡ load_of book held
    unfolding load_of
    load_narrow h = let (p, f, m) = accepted_loaded book n e in rw (f, lt-ltb (length held) held_room h)

    -- the book is small enough to be held
    pub load_few : ((i : ℕ) → Fits w8 (get_or book i 0)) → length book ≤ book_most
    load_few b = let (p, f, m) = accepted_loaded book n e in loaded_few book p (λ i. omega (arith, b i)) f

    -- the buffer has the room, and the book is held
    pub load_held : (held' : List ℕ) → held_room ≤ length held → held' ≡ holding 0 book held → LoadOutcome.after (of_verdict (Ok n)) held' ≡ load_of book held
    unfolding load_of
    load_held held' h q =
        let (p, f, m) = accepted_loaded book n e in
        let o : of_verdict (Ok n) ≡ accepted (length p.relations) = ap accepted m in
        rw (f, le-ltb (length held) held_room h, q, o)

pub ruleset loads = (load_refused, load_narrow, load_few, load_held, rules)

-- posting a ticket, by its count and the held book's
module _ (ticket held sheet : List ℕ) (changes : ℕ) (c : changes ≡ changes_told held) (count : ℕ) (k : count ≡ count_in ticket) where
  -- the counts differ
  pub post_stale : (count ≡ changes → ⊥) → ChangeOutcome.after (of_verdict (Err StaleTicket)) held sheet ≡ post_of ticket held sheet
  unfolding post_of
  post_stale h = rw (ne_eqb (count_in ticket) (changes_told held) (λ q. h (k ∙ q ∙ sym c)))

  module _ (same : count ≡ changes) where
    -- so the ticket has that of the held book
    count_told : count_in ticket ≡ changes_told held
    count_told = sym k ∙ same ∙ c

    -- no more changes are taken
    pub post_worn : changes_most ≤ changes → ChangeOutcome.after (of_verdict (Err BookWorn)) held sheet ≡ post_of ticket held sheet
    unfolding post_of
    post_worn h = rw (eq-eqb (count_in ticket) (changes_told held) count_told, le-leb changes_most (changes_told held) (omega arith))

    -- else its change is made
    pub post_made : changes < changes_most → (asked : Asked) → change_asked asked (record_in ticket) ≡ change_in ticket → (bytes : List ℕ) → bytes ≡ record_in ticket
        → (x : ChangeOutcome) → x ≡ change_of (change_asked asked bytes) held sheet → x ≡ post_of ticket held sheet
    unfolding post_of
    post_made h asked a bytes b x q =
        let l : changes_told held < changes_most = omega arith in
        let d : change_asked asked bytes ≡ change_in ticket = ap (change_asked asked) b ∙ a in
        rw (eq-eqb (count_in ticket) (changes_told held) count_told, lt-leb changes_most (changes_told held) l, ← d)
        (q ∙ change_fresh (change_asked asked bytes) held sheet l)

pub ruleset posts = (post_stale, post_worn, post_made, rules)
