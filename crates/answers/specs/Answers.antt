-- What the entries answer, in document 01's words and numbers; and which answer each case of what the code returns is.
use Rattle.std.specs.Prelude.{ℕ, Bool, Result, Ok, Err}
use Rattle.refusals.specs.declared.Refusal.{Refusal}
use Rattle.refusals.specs.Refusals.{number_and_place}
use Rattle.asked.specs.declared.Comparison.{Comparison}
use Rattle.asked.specs.declared.Round.{Round}
use Rattle.asked.specs.declared.Round.TheVariants as Rounds
use Rattle.asked.specs.declared.Lengths.{Lengths}
use Rattle.asked.specs.declared.Comparison.TheVariants as Comparisons

pub data Answer : Type 0 where
  -- a book is accepted, with its number of relations (document 01: rules)
  accepted : ℕ → Answer
  -- a round ends, with 'same' for true
  ended : Bool → Answer
  -- a round goes on, with the lengths of the next u, v and p
  next : ℕ → ℕ → ℕ → Answer
  -- a comparison's end, with the count of rounds
  same : ℕ → Answer
  different : ℕ → Answer
  -- something is written, with its length: the program's output, or a least word
  wrote : ℕ → Answer
  -- a refusal's number and place
  refused : ℕ → ℕ → Answer

-- a refusal by document 01's number and place
abbrev pub refusal : Refusal → Answer
refusal r = refused (number_and_place r).number (number_and_place r).place

abbrev pub of_verdict : Result ℕ Refusal → Answer
of_verdict (Ok n) = accepted n
of_verdict (Err r) = refusal r

abbrev pub of_round : Result (Round Lengths) Refusal → Answer
of_round (Ok (Rounds.End b)) = ended b
of_round (Ok (Rounds.Next l)) = next l.u l.v l.p
of_round (Err r) = refusal r

abbrev pub of_comparison : Result Comparison Refusal → Answer
of_comparison (Ok (Comparisons.Same n)) = same n
of_comparison (Ok (Comparisons.Different n)) = different n
of_comparison (Err r) = refusal r

-- of a least word, and of the program
abbrev pub of_written_word : Result ℕ Refusal → Answer
of_written_word (Ok n) = wrote n
of_written_word (Err r) = refusal r

abbrev pub of_printed : Result ℕ Refusal → Answer
of_printed printed = of_written_word printed
