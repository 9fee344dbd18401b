-- That a refusal keeps every lent byte (document 01, "Refusals by number"), said of every entry that writes: of the sheet, the round, the least word and the program.
-- Taking a prefix off is in crate `removal`, held books are in crate `held`.
use Rattle.std.specs.Prelude.{ℕ, Bool, List, ◌≡◌}
use Rattle.words.specs.Words.{Word}
use Rattle.answers.specs.Answers.{ended, refused}
use Rattle.answers.specs.Entries.{SheetOutcome, sheet_of, RoundOutcome, round_of, WordOutcome, least_of, OutputOutcome, output_of}

-- whatever the number and the place of a refusal are, each lent buffer after it is the old one; and the end of a round writes nothing either
pub record RefusalsKeep : Type 0 where
  pub sheet : (book old : List ℕ) (n place : ℕ) (sheet : List ℕ) → sheet_of book old ≡ SheetOutcome.after (refused n place) sheet → sheet ≡ old
  pub round : (book : List ℕ) (u v p : Word) (next_u next_v next_p : List ℕ) (n place : ℕ) (next_u' next_v' next_p' : List ℕ)
      → round_of book u v p next_u next_v next_p ≡ RoundOutcome.after (refused n place) next_u' next_v' next_p'
      → (next_u' ≡ next_u) × (next_v' ≡ next_v) × (next_p' ≡ next_p)
  pub end : (book : List ℕ) (u v p : Word) (next_u next_v next_p : List ℕ) (b : Bool) (next_u' next_v' next_p' : List ℕ)
      → round_of book u v p next_u next_v next_p ≡ RoundOutcome.after (ended b) next_u' next_v' next_p'
      → (next_u' ≡ next_u) × (next_v' ≡ next_v) × (next_p' ≡ next_p)
  pub least : (book : List ℕ) (u : Word) (old : List ℕ) (offset n place : ℕ) (buffer : List ℕ)
      → least_of book u old offset ≡ WordOutcome.after (refused n place) buffer → buffer ≡ old
  pub output : (input old : List ℕ) (n place : ℕ) (out : List ℕ) → output_of input old ≡ OutputOutcome.after (refused n place) out → out ≡ old
