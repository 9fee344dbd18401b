-- Which numbers the C functions give for each answer of the entries: the specification's number and place of a refusal, what the
-- answer says as an outcome, and what it counts.
use Rattle.std.specs.Prelude.{ℕ, Bool, cond}
use Rattle.answers.specs.Answers.{Answer, accepted, ended, next, same, different, wrote, refused}
use Rattle.results.specs.declared.CheckResult.{CheckResult}
use Rattle.results.specs.declared.RoundResult.{RoundResult}
use Rattle.results.specs.declared.CompareResult.{CompareResult}
use Rattle.results.specs.declared.ProgramResult.{ProgramResult}
use Rattle.results.specs.declared.LeastResult.{LeastResult}
use Rattle.results.specs.declared.HeldResult.{HeldResult}

-- the outcome of a round that ends, with 'same' for true
abbrev pub end_outcome : Bool → ℕ
end_outcome b = cond b 1 2

-- an answer as numbers: a refusal's number and place, or 0 and 0; the outcome, 1 same, 2 different, 3 next; and up to three counts. The outcome 0 says nothing: no
-- refused answer has another, and no round or comparison that is not refused has it
pub record Numbers : Type 0 where
  pub refusal : ℕ
  pub place : ℕ
  pub outcome : ℕ
  pub first : ℕ
  pub second : ℕ
  pub third : ℕ

abbrev pub numbers : Answer → Numbers
numbers (accepted n) = record { refusal = 0; place = 0; outcome = 0; first = n; second = 0; third = 0 }
numbers (ended b) = record { refusal = 0; place = 0; outcome = end_outcome b; first = 0; second = 0; third = 0 }
numbers (next u v p) = record { refusal = 0; place = 0; outcome = 3; first = u; second = v; third = p }
numbers (same n) = record { refusal = 0; place = 0; outcome = 1; first = n; second = 0; third = 0 }
numbers (different n) = record { refusal = 0; place = 0; outcome = 2; first = n; second = 0; third = 0 }
numbers (wrote n) = record { refusal = 0; place = 0; outcome = 0; first = n; second = 0; third = 0 }
numbers (refused n p) = record { refusal = n; place = p; outcome = 0; first = 0; second = 0; third = 0 }

-- what the check and the cut sheet return for an answer
abbrev pub check_result : Answer → CheckResult
check_result a = record { refusal = (numbers a).refusal; place = (numbers a).place; rules = (numbers a).first }

-- what the round returns for an answer
abbrev pub round_result : Answer → RoundResult
round_result a =
    record {
      refusal = (numbers a).refusal;
      place = (numbers a).place;
      outcome = (numbers a).outcome;
      u_length = (numbers a).first;
      v_length = (numbers a).second;
      p_length = (numbers a).third;
    }

-- what the comparison returns for an answer
abbrev pub compare_result : Answer → CompareResult
compare_result a =
    record { refusal = (numbers a).refusal; place = (numbers a).place; outcome = (numbers a).outcome; rounds = (numbers a).first }

-- what the program returns for an answer
abbrev pub program_result : Answer → ProgramResult
program_result a = record { refusal = (numbers a).refusal; place = (numbers a).place; length = (numbers a).first }

-- what the least word returns for an answer
abbrev pub least_result : Answer → LeastResult
least_result a = record { refusal = (numbers a).refusal; place = (numbers a).place; length = (numbers a).first }

-- what a held book returns for where its book begins, how many bytes that has, and the count of its changes
abbrev pub held_result : ℕ → ℕ → ℕ → HeldResult
held_result start bytes counted = record { start = start; length = bytes; changes = counted }
