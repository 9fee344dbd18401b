-- What is owed of the removal of a prefix, from the theorem of crate `least` that the rounds from a piece write the least word behind it.
use Prim.Native.Nat.{ℕ, ◌≤◌}
use mathlib.Core.Bool.{Bool, true, false}
use mathlib.Core.List.{List, ◌++◌}
use mathlib.Core.Logic.{◌↔◌}
use mathlib.Core.Path.{◌≡◌, refl, sym, ap, ◌∙◌, subst}
use native.Mathlib.Omega.{arith}
use native.Mathlib.Nat.{mul-le-mul}
use lib.ListN.{length, take, drop}
use Rattle.std.specs.Prelude.{Ok}
use Rattle.words.specs.Words.{Word}
use Rattle.words.specs.Relations.{Relation, relation_words}
use Rattle.words.specs.Families.{words_of, family_of}
use Rattle.words.proofs.Tests.{false_of}
use Rattle.overlap.specs.Pieces.{IsPiece}
use Rattle.overlap.specs.Cuts.{is_piece}
use Rattle.overlap.proofs.Agree.{is_piece_iff_piece}
use Rattle.congruence.specs.Congruence.{Congruent}
use Rattle.least.specs.Order.{house_rank}
use Rattle.least.specs.Writing.{Found, found, absent}
use Rattle.least.specs.Theorem.{longest_word, Written}
use Rattle.least.proofs.Order.{house_injective}
use Rattle.least.proofs.Theorem.{rounds_write_least, least_unique}
use Rattle.limits.specs.Limits.{side_most, compared_most}
use Rattle.words.specs.Writing.{over}
use Rattle.format.specs.Book.{Presentation, BookReading}
use Rattle.loading.specs.Loading.{load_book}
use Rattle.asked.specs.Given.{marked_of}
use Rattle.given.proofs.Laws.{fine_short, fine_marked}
use Rattle.asked.specs.Least.{least_from}
use Rattle.leastword.proofs.Rounds.{longest_bound}
use Rattle.answers.specs.Answers.{wrote, refused}
use Rattle.answers.specs.Entries.{WordOutcome, lacks_space, placed_at, found_at}
use Rattle.answers.specs.Demands.{Placed}
use Rattle.answers.proofs.Loaded.{loaded_c4, loaded_short}
use Rattle.answers.proofs.LeastWords.{placed_word, placed_nowhere}
use Rattle.removal.specs.Removal.{removed_at, loaded_removal, removal_of}
use Rattle.removal.specs.Demands.{WritesBehind, RemovesPrefix, RemovalAnswered}

-- a word that is placed, or has no space, is not refused by another number than 14
placed_number : (n offset : ℕ) (w old : List ℕ) → (n ≡ 14 → ⊥) → placed_at offset w old ≡ WordOutcome.after (refused n 0) old → ⊥
unfolding placed_at
placed_number n offset w old h e = go (lacks_space (length old) offset (length w)) refl
  where
    go : (t : Bool) → lacks_space (length old) offset (length w) ≡ t → ⊥
    go true q =
        let d : WordOutcome.after (refused 14 0) old ≡ WordOutcome.after (refused n 0) old = rw q at e in
        let m : 14 ≡ n = cc in
        h (sym m)
    go false q =
        let d : WordOutcome.after (wrote (length w)) (take offset old ++ over w (drop offset old)) ≡ WordOutcome.after (refused n 0) old = rw q at e in
        let z : ◌≡◌ {A = ℕ} 0 1 = cc in
        omega arith

-- what is found is never refused by 18, and by 19 only where nothing is found
found_number : (offset : ℕ) (f : Found) (old : List ℕ) → found_at offset f old ≡ WordOutcome.after (refused 18 0) old → ⊥
found_number offset (found w) old e = placed_number 18 offset w old (λ h. omega (arith, h)) e
found_number offset absent old e = let z : ◌≡◌ {A = ℕ} 18 19 = cc in omega (arith, z)

found_missing : (offset : ℕ) (f : Found) (old : List ℕ) → found_at offset f old ≡ WordOutcome.after (refused 19 0) old → f ≡ absent
found_missing offset (found w) old e = absurd (placed_number 19 offset w old (λ h. omega (arith, h)) e)
found_missing offset absent old e = refl

-- the outcome by the test for a piece
module _ (B : List Word) (family : ℕ → ℕ) (u p : Word) (old : List ℕ) (offset : ℕ) where
  pub piece_removed : is_piece B p ≡ true → removed_at B family u p old offset ≡ found_at offset (least_from B family p u) old
  unfolding removed_at
  piece_removed e = rw e

  pub no_piece_removed : is_piece B p ≡ false → removed_at B family u p old offset ≡ WordOutcome.after (refused 18 0) old
  unfolding removed_at
  no_piece_removed e = rw e

  strange_iff : (removed_at B family u p old offset ≡ WordOutcome.after (refused 18 0) old) ↔ (¬ IsPiece B p)
  strange_iff = (
    λ e s. found_number offset (least_from B family p u) old (sym (piece_removed ((is_piece_iff_piece B p).1 s)) ∙ e),
    λ s. no_piece_removed (false_of (is_piece B p) (λ e. s ((is_piece_iff_piece B p).0 e))),
  )

  -- 19 is given of pieces alone
  missing_piece : removed_at B family u p old offset ≡ WordOutcome.after (refused 19 0) old → IsPiece B p
  missing_piece e = go (is_piece B p) refl
    where
      go : (t : Bool) → is_piece B p ≡ t → IsPiece B p
      go true q = (is_piece_iff_piece B p).0 q
      go false q = let d = sym (no_piece_removed q) ∙ e in let z : ◌≡◌ {A = ℕ} 18 19 = cc in absurd (omega (arith, z))

-- under relations whose rounds from a piece write the least word behind it
module _ (relations : List Relation) (writes : (p u : Word) → IsPiece (words_of relations) p → Written (words_of relations) (family_of relations) house_rank (Congruent (relation_words relations)) p u)
    (short : longest_word (words_of relations) ≤ side_most) (u p : Word) (few : length u ≤ compared_most) (old : List ℕ) (offset : ℕ) where
  abbrev removed : WordOutcome
  removed = removed_at (words_of relations) (family_of relations) u p old offset

  missing_iff : (removed ≡ WordOutcome.after (refused 19 0) old) ↔ (IsPiece (words_of relations) p × ((w : Word) → ¬ Congruent (relation_words relations) (p ++ w) u))
  missing_iff = (
    λ e.
        let s = missing_piece (words_of relations) (family_of relations) u p old offset e in
        let x = writes p u s in
        let a = found_missing offset (least_from (words_of relations) (family_of relations) p u) old
        (sym (piece_removed (words_of relations) (family_of relations) u p old offset ((is_piece_iff_piece (words_of relations) p).1 s)) ∙ e) in
        (s, x.missing.0 (sym x.computed ∙ a)),
    λ (s, none).
        let x = writes p u s in
        piece_removed (words_of relations) (family_of relations) u p old offset ((is_piece_iff_piece (words_of relations) p).1 s)
        ∙ ap (λ (f : Found). found_at offset f old) (x.computed ∙ x.missing.1 none),
  )

  -- a word that is found is written
  writes_found : (s : IsPiece (words_of relations) p) (w : Word) → (writes p u s).result ≡ found w → WritesBehind (relation_words relations) u p old offset removed
  writes_found s w e =
      let x = writes p u s in
      let l = (x.least w).0 e in
      let o : removed ≡ placed_at offset w old =
      piece_removed (words_of relations) (family_of relations) u p old offset ((is_piece_iff_piece (words_of relations) p).1 s)
      ∙ ap (λ (f : Found). found_at offset f old) (x.computed ∙ e) in
      record {
        word = w;
        least = l;
        only = λ v m. least_unique m l;
        roomy = λ h. subst (Placed w old offset) (sym o) (placed_word w old offset h);
        narrow = λ h. o ∙ placed_nowhere w old offset h;
        short = omega (arith, x.short w e, mul-le-mul short few);
      }

  writes_some : (s : IsPiece (words_of relations) p) (w : Word) → Congruent (relation_words relations) (p ++ w) u → (r : Found) → (writes p u s).result ≡ r
      → WritesBehind (relation_words relations) u p old offset removed
  writes_some s w c (found x) e = writes_found s x e
  writes_some s w c absent e = absurd ((writes p u s).missing.0 e w c)

  removes_prefix : RemovesPrefix relations u p old offset removed
  removes_prefix =
      record {
        strange = strange_iff (words_of relations) (family_of relations) u p old offset;
        missing = missing_iff;
        writes = λ s w c. writes_some s w c (writes p u s).result refl;
      }

-- an accepted book, and words that are fine
module _ (book : List ℕ) (presentation : Presentation) (e : load_book book ≡ BookReading.read presentation) where
  pub removal_is : (u p : Word) (old : List ℕ) (offset : ℕ) → marked_of presentation.letters u p ≡ Ok tt
      → removal_of book u p old offset ≡ removed_at (words_of presentation.relations) (family_of presentation.relations) u p old offset
  unfolding removal_of loaded_removal
  removal_is u p old offset f = rw (e, f)

  pub loaded_writes : (p u : Word) → IsPiece (words_of presentation.relations) p
      → Written (words_of presentation.relations) (family_of presentation.relations) house_rank (Congruent (relation_words presentation.relations)) p u
  loaded_writes p u s = rounds_write_least presentation.relations (loaded_c4 book presentation e) house_rank house_injective p u s

  pub loaded_removes : (u p : Word) (old : List ℕ) (offset : ℕ) → marked_of presentation.letters u p ≡ Ok tt
      → RemovesPrefix presentation.relations u p old offset (removal_of book u p old offset)
  loaded_removes u p old offset f =
      let B = words_of presentation.relations in
      let s = longest_bound B side_most (length B) (λ i h. loaded_short book presentation e i) in
      let few = fine_short 0 compared_most presentation.letters u (fine_marked presentation.letters u p f).0 in
      subst (RemovesPrefix presentation.relations u p old offset) (sym (removal_is u p old offset f))
      (removes_prefix presentation.relations loaded_writes (omega arith) u p few old offset)

-- what is the definition's outcome is all that the removal promises
pub removal_answered : (book : List ℕ) (u p : Word) (old : List ℕ) (offset : ℕ) (outcome : WordOutcome) → outcome ≡ removal_of book u p old offset
    → RemovalAnswered book u p old offset outcome
removal_answered book u p old offset outcome e =
    record { is = e; removes = λ q l f. subst (RemovesPrefix q.relations u p old offset) (sym e) (loaded_removes book q l u p old offset f) }
