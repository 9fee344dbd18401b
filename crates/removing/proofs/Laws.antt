-- A law for each way that the removal of a prefix can go.
use Prim.Native.Nat.{ℕ, ◌≤◌, ◌<◌}
use mathlib.Core.List.{List}
use mathlib.Core.Path.{◌≡◌, sym, ap, ◌∙◌, subst}
use Rattle.std.proofs.Common.{Option, Some, None}
use native.Mathlib.Omega.{arith}
use borrow.Author.Rules.{rules}
use lib.ListN.{length, take, replicate, length-replicate}
use Rattle.std.specs.Prelude.{Result, Ok, Err}
use Rattle.words.specs.Words.{Word}
use Rattle.words.specs.Families.{words_of, family_of}
use Rattle.overlap.specs.Pieces.{IsPiece}
use Rattle.overlap.proofs.Agree.{is_piece_iff_piece}
use Rattle.limits.specs.Limits.{mark_most}
use Rattle.layout.specs.Places.{count_cell, text_room}
use Rattle.layout.specs.Layout.{words_in}
use Rattle.layout.specs.Families.{count_of, family_by}
use Rattle.refusals.specs.declared.Refusal.{Refusal}
use Rattle.refusals.specs.declared.Refusal.TheVariants.{NotPiece}
use Rattle.format.specs.declared.BookSize.{BookSize}
use Rattle.presentation.specs.Loading.{PiecesKept}
use Rattle.presentation.proofs.Laws.{load_refused}
use Rattle.given.specs.Given.{Widened}
use Rattle.asked.specs.Given.{marked_of}
use Rattle.given.proofs.Laws.{fine_short, fine_known, fine_marked}
use Rattle.moves.specs.declared.Mark.{Mark}
use Rattle.moves.specs.State.{placed_mark}
use Rattle.occurrence.specs.Standing.{Sought, PieceSought}
use Rattle.leastword.specs.Writing.{Asked}
use Rattle.asked.specs.Least.{least_from}
use Rattle.answers.specs.Answers.{of_written_word}
use Rattle.answers.specs.Entries.{WordOutcome, found_at}
use Rattle.answers.proofs.LeastCalls.{fine_asked}
use Rattle.answers.proofs.Laws.{memory_made, loaded_room, loaded_letters}
use Rattle.removal.specs.Removal.{removed_at, loaded_removal, removal_of}
use Rattle.removal.specs.Asked.{Removable, PrefixGiven, Marked}
use Rattle.removal.specs.Demands.{RemovalAnswered}
use Rattle.removal.proofs.Removals.{piece_removed, no_piece_removed, removal_answered}

-- where the prefix stands
module _ (text table longest : List ℕ) (n : ℕ) (p : Word) (m : PrefixGiven text table longest n p) where
  mark_short : length p ≤ mark_most
  mark_short = fine_short 2 mark_most m.letters p m.fine

  pub mark_room : length p ≤ length (replicate {A = ℕ} mark_most 0)
  mark_room = omega (arith, mark_short, length-replicate {A = ℕ} mark_most 0)

  sought : Sought text table n longest p
  sought =
      record {
        laid = m.known.loaded.ready.grouped.checked.laid;
        tabled = m.known.tabled;
        letters = λ k h. omega (arith, fine_known 2 mark_most m.letters p m.fine k h, m.known.loaded.few);
        few = mark_short;
      }

  module _ (wide : List ℕ) (x : Widened p wide) where
    pub mark_sought : Sought text table n longest (take (length p) wide)
    mark_sought = rw x.same sought

    pub mark_found : (r : Option Mark) → PieceSought text table n (take (length p) wide) r → PieceSought text table n p r
    mark_found r s = rw x.same at s

pub ruleset finds = (mark_room, mark_sought, mark_found, rules)

-- 18, or the least word behind the piece
pub remove_given : (text table longest : List ℕ) (n : ℕ) (u p : Word) → Marked text table longest n u p → PrefixGiven text table longest n p
remove_given text table longest n u p m = record { letters = m.letters; known = m.known; fine = (fine_marked m.letters u p m.fine).1 }

module _ (text table longest : List ℕ) (n : ℕ) (u p : Word) (m : Marked text table longest n u p) (r : Option Mark) (s : PieceSought text table n p r) where
  pub remove_strange : (buffer : List ℕ) (offset : ℕ) → r ≡ None
      → WordOutcome.after (of_written_word (Err NotPiece)) buffer ≡ removed_at (words_in text table n) (family_by table n) u p buffer offset
  remove_strange buffer offset e = sym (no_piece_removed (words_in text table n) (family_by table n) u p buffer offset (s.absent e))

  module _ (mark : Mark) (e : r ≡ Some mark) where
    stands : IsPiece (words_in text table n) (placed_mark text mark)
    stands = let k = s.found mark e in subst (IsPiece (words_in text table n)) (sym k.same) ((is_piece_iff_piece (words_in text table n) p).0 k.piece)

    pub remove_asked : Asked text table n u mark
    remove_asked = fine_asked text table n m.letters m.known.loaded u (fine_marked m.letters u p m.fine).0 mark (s.found mark e).fits stands

    pub remove_placed : (buffer : List ℕ) (offset : ℕ) (o : WordOutcome)
        → o ≡ found_at offset (least_from (words_in text table n) (family_by table n) (placed_mark text mark) u) buffer
        → o ≡ removed_at (words_in text table n) (family_by table n) u p buffer offset
    remove_placed buffer offset o f =
        let k = s.found mark e in
        f ∙ ap (λ (q : Word). found_at offset (least_from (words_in text table n) (family_by table n) q u) buffer) k.same
        ∙ sym (piece_removed (words_in text table n) (family_by table n) u p buffer offset k.piece)

pub ruleset removes = (remove_given, remove_strange, remove_asked, remove_placed, rules)

-- a given word and a given prefix
module _ (text table longest : List ℕ) (n letters : ℕ) (k : Removable text table longest n letters) (u p : Word) (g : Result (Unit {0}) Refusal) (e : g ≡ marked_of letters u p) where
  pub removal_refused : (buffer : List ℕ) (offset : ℕ) (r : Refusal) → g ≡ Err r
      → WordOutcome.after (of_written_word (Err r)) buffer ≡ loaded_removal letters (words_in text table n) (family_by table n) u p buffer offset
  unfolding loaded_removal
  removal_refused buffer offset r f = sym (rw (sym e ∙ f))

  module _ (f : g ≡ Ok tt) where
    pub removal_marked : Marked text table longest n u p
    removal_marked = record { letters = letters; known = k; fine = sym e ∙ f }

    pub removal_made : (buffer : List ℕ) (offset : ℕ) (o : WordOutcome) → o ≡ removed_at (words_in text table n) (family_by table n) u p buffer offset
        → o ≡ loaded_removal letters (words_in text table n) (family_by table n) u p buffer offset
    unfolding loaded_removal
    removal_made buffer offset o h = rw (sym e ∙ f) h

pub ruleset given_removals = (removal_refused, removal_marked, removal_made, rules)

-- the entry
module _ (book : List ℕ) (reading : Result BookSize Refusal) (text table longest : List ℕ) (d : PiecesKept book (replicate text_room 0) reading text table longest) where
  pub removal_unread : (u p buffer : List ℕ) (offset : ℕ) (r : Refusal) → reading ≡ Err r
      → RemovalAnswered book u p buffer offset (WordOutcome.after (of_written_word (Err r)) buffer)
  unfolding removal_of
  removal_unread u p buffer offset r f =
      removal_answered book u p buffer offset (WordOutcome.after (of_written_word (Err r)) buffer) (sym (rw (load_refused book reading text table d.loaded r f)))

  module _ (size : BookSize) (e : reading ≡ Ok size) where
    pub removal_room : count_cell < length table
    removal_room = loaded_room book reading text table d.loaded size e

    module _ (n : ℕ) (c : n ≡ count_of table) where
      pub removal_loaded : Removable text table longest n size.letters
      removal_loaded =
          record { loaded = loaded_letters book reading text table d.loaded size e n c; tabled = rw c (d.tabled (omega (arith, length-replicate {A = ℕ} text_room 0)) size e) }

      pub removal_told : (u p buffer : List ℕ) (offset : ℕ) (x : WordOutcome)
          → x ≡ loaded_removal size.letters (words_in text table n) (family_by table n) u p buffer offset → RemovalAnswered book u p buffer offset x
      unfolding removal_of
      removal_told u p buffer offset x f =
          let h = d.loaded.held size e in
          let B = words_of h.presentation.relations in
          let F = family_of h.presentation.relations in
          let g = rw (c, h.words, h.families) at f in
          let q : removal_of book u p buffer offset ≡ loaded_removal size.letters B F u p buffer offset = rw (h.is, ← h.lettered) in
          removal_answered book u p buffer offset x (g ∙ sym q)

pub ruleset entering = (memory_made, removal_unread, removal_room, removal_loaded, removal_told, rules)
