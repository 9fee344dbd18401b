-- A refusal keeps every lent byte: of the cases of the definition, the one that writes has another answer.
use mathlib.Core.Bool.{Bool, true, false, cond}
use mathlib.Core.Path.{◌≡◌, refl}
use Rattle.std.specs.Prelude.{Result, Ok, Err}
use Rattle.refusals.specs.declared.Refusal.{Refusal}
use Rattle.words.specs.Families.{words_of, family_of}
use Rattle.overlap.specs.Cuts.{is_piece}
use Rattle.refusals.specs.declared.Refusal.TheVariants.{NotPiece}
use Rattle.format.specs.Book.{BookReading}
use Rattle.loading.specs.Loading.{load_book}
use Rattle.asked.specs.Given.{on_given, marked_of}
use Rattle.least.specs.Writing.{Found}
use Rattle.asked.specs.Least.{least_from}
use Rattle.answers.specs.Answers.{refused, refusal}
use Rattle.answers.specs.Entries.{WordOutcome, found_at}
use Rattle.answers.proofs.Keeping.{found_keeps}
use Rattle.removal.specs.Removal.{removed_at, loaded_removal, removal_of}
use Rattle.removal.specs.Demands.{RemovalsKeep}

pub removals_keep : RemovalsKeep
unfolding removal_of loaded_removal removed_at
removals_keep book u p old offset n place buffer e = step (load_book book) refl
  where
    piece : (b : Bool) (f : Found) → cond b (found_at offset f old) (WordOutcome.after (refusal NotPiece) old) ≡ WordOutcome.after (refused n place) buffer → buffer ≡ old
    piece true f d = found_keeps offset old n place buffer f d
    piece false f d = cc

    asked : (g : Result (Unit {0}) Refusal) (b : Bool) (f : Found) → on_given g (λ r. WordOutcome.after (refusal r) old) (cond b (found_at offset f old) (WordOutcome.after (refusal NotPiece) old))
        ≡ WordOutcome.after (refused n place) buffer → buffer ≡ old
    asked (Ok _) b f d = piece b f d
    asked (Err r) b f d = cc

    step : (o : BookReading) → load_book book ≡ o → buffer ≡ old
    step (BookReading.refused r) f = let d : WordOutcome.after (refusal r) old ≡ WordOutcome.after (refused n place) buffer = rw f at e in cc
    step (BookReading.read q) f =
        asked (marked_of q.letters u p) (is_piece (words_of q.relations) p) (least_from (words_of q.relations) (family_of q.relations) p u) (rw f at e)
