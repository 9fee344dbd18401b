-- A law for each case of an answer: the numbers that the C functions give for it.
use Prim.Native.Nat.{ℕ}
use mathlib.Core.Bool.{Bool, true, false}
use mathlib.Core.Path.{◌≡◌, refl}
use Rattle.std.specs.Prelude.{Ok, Err}
use Rattle.refusals.specs.declared.Refusal.{Refusal}
use Rattle.refusals.specs.Refusals.{number_and_place}
use Rattle.asked.specs.declared.Comparison.TheVariants as Comparisons
use Rattle.asked.specs.declared.Lengths.{Lengths}
use Rattle.asked.specs.declared.Round.TheVariants as Rounds
use Rattle.answers.specs.Answers.{of_verdict, of_round, of_comparison, of_printed, of_written_word}
use Rattle.results.specs.Numbers.{end_outcome, check_result, round_result, compare_result, program_result, least_result}

-- how a round ends
pub ends_same : 1 ≡ end_outcome true
ends_same = refl

pub ends_different : 2 ≡ end_outcome false
ends_different = refl

-- a verdict
pub verdict_accepted : (n : ℕ) → record { refusal = 0; place = 0; rules = n } ≡ check_result (of_verdict (Ok n))
verdict_accepted n = refl

pub verdict_refused : (r : Refusal)
    → record { refusal = (number_and_place r).number; place = (number_and_place r).place; rules = 0 } ≡ check_result (of_verdict (Err r))
verdict_refused r = refl

-- a round
pub round_ends : (b : Bool)
    → record { refusal = 0; place = 0; outcome = end_outcome b; u_length = 0; v_length = 0; p_length = 0 } ≡ round_result (of_round (Ok (Rounds.End b)))
round_ends b = refl

pub round_goes_on : (l : Lengths)
    → record { refusal = 0; place = 0; outcome = 3; u_length = l.u; v_length = l.v; p_length = l.p } ≡ round_result (of_round (Ok (Rounds.Next l)))
round_goes_on l = refl

pub round_refused : (r : Refusal)
    → record { refusal = (number_and_place r).number; place = (number_and_place r).place; outcome = 0; u_length = 0; v_length = 0; p_length = 0 }
    ≡ round_result (of_round (Err r))
round_refused r = refl

-- a comparison
pub comparison_same : (n : ℕ) → record { refusal = 0; place = 0; outcome = 1; rounds = n } ≡ compare_result (of_comparison (Ok (Comparisons.Same n)))
comparison_same n = refl

pub comparison_different : (n : ℕ) → record { refusal = 0; place = 0; outcome = 2; rounds = n } ≡ compare_result (of_comparison (Ok (Comparisons.Different n)))
comparison_different n = refl

pub comparison_refused : (r : Refusal)
    → record { refusal = (number_and_place r).number; place = (number_and_place r).place; outcome = 0; rounds = 0 } ≡ compare_result (of_comparison (Err r))
comparison_refused r = refl

-- what the program printed
pub program_wrote : (n : ℕ) → record { refusal = 0; place = 0; length = n } ≡ program_result (of_printed (Ok n))
program_wrote n = refl

pub program_refused : (r : Refusal)
    → record { refusal = (number_and_place r).number; place = (number_and_place r).place; length = 0 } ≡ program_result (of_printed (Err r))
program_refused r = refl

-- a least word
pub least_wrote : (n : ℕ) → record { refusal = 0; place = 0; length = n } ≡ least_result (of_written_word (Ok n))
least_wrote n = refl

pub least_refused : (r : Refusal)
    → record { refusal = (number_and_place r).number; place = (number_and_place r).place; length = 0 } ≡ least_result (of_written_word (Err r))
least_refused r = refl
