-- What the removal of a prefix answers and leaves in its lent buffer, for every input whatever. Refusals come in the order of document 01, "Refusals by number".
use Rattle.std.specs.Prelude.{ℕ, cond, List}
use Rattle.words.specs.Words.{Word}
use Rattle.words.specs.Families.{words_of, family_of}
use Rattle.overlap.specs.Cuts.{is_piece}
use Rattle.refusals.specs.declared.Refusal.TheVariants.{NotPiece}
use Rattle.loading.specs.Loading.{load_book}
use Rattle.asked.specs.Given.{on_given, marked_of}
use Rattle.asked.specs.Least.{least_from}
use Rattle.answers.specs.Answers.{refusal}
use Rattle.answers.specs.Entries.{on_loaded, WordOutcome, found_at}

-- 18 where p is no piece; then the least word behind it, 19 where there is none and 14 where it has no space
unfoldable pub removed_at : List Word → (ℕ → ℕ) → Word → Word → List ℕ → ℕ → WordOutcome
removed_at B family u p buffer offset =
    cond (is_piece B p) (found_at offset (least_from B family p u) buffer) (WordOutcome.after (refusal NotPiece) buffer)

-- the removal under relation words B in families, of so many letters
unfoldable pub loaded_removal : ℕ → List Word → (ℕ → ℕ) → Word → Word → List ℕ → ℕ → WordOutcome
loaded_removal letters B family u p buffer offset =
    on_given (marked_of letters u p) (λ r. WordOutcome.after (refusal r) buffer) (removed_at B family u p buffer offset)

-- the removal of the prefix p from u
unfoldable pub removal_of : List ℕ → Word → Word → List ℕ → ℕ → WordOutcome
removal_of book u p buffer offset =
    on_loaded (load_book book) (λ r. WordOutcome.after (refusal r) buffer) (λ presentation.
    loaded_removal presentation.letters (words_of presentation.relations) (family_of presentation.relations) u p buffer offset)
