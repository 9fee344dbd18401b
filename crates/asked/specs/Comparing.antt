-- What comparing two given words under relation words gives: refusals 9 and 10, then the answer of the rows, 'spent' being refusal 11 (document 01,
-- "Exchanges and rounds" and "Refusals by number").
use Rattle.std.specs.Prelude.{ℕ, List, Result, Ok, Err}
use Rattle.refusals.specs.declared.Refusal.{Refusal}
use Rattle.words.specs.Words.{Word}
use Rattle.congruence.specs.Rounds.{CompareAnswer, compare_under}
use Rattle.congruence.specs.Rounds.CompareAnswer.{same, different, spent}
use Rattle.refusals.specs.declared.Refusal.TheVariants.{Spent}
use Rattle.asked.specs.Given.{on_given, pair_of}
use Rattle.asked.specs.declared.Comparison.{Comparison}
use Rattle.asked.specs.declared.Comparison.TheVariants.{Same, Different}

-- the rows' answer as a comparison's
abbrev pub by_answer : CompareAnswer → Result Comparison Refusal
by_answer (same n) = Ok (Same n)
by_answer (different n) = Ok (Different n)
by_answer (spent n) = Err (Spent n)

-- the rows' answer for two words under relation words B and their families
unfoldable pub answer_of : List Word → (ℕ → ℕ) → Word → Word → ℕ → Result Comparison Refusal
answer_of B family u v allowance = by_answer (compare_under B family allowance u v)

-- two given words under relation words B of so many letters and their families, with an allowance of rounds
unfoldable pub comparison_of : ℕ → List Word → (ℕ → ℕ) → Word → Word → ℕ → Result Comparison Refusal
comparison_of letters B family u v allowance = on_given (pair_of letters u v) Err (answer_of B family u v allowance)
