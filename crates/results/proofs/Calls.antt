-- A law for each C function, which passes an answer on.
use Prim.Native.Nat.{ℕ}
use mathlib.Core.List.{List}
use mathlib.Core.Path.{◌≡◌, ap, ◌∙◌, subst}
use borrow.Author.Rules.{rules}
use lib.ListN.{length}
use Rattle.std.specs.Prelude.{Result}
use Rattle.refusals.specs.declared.Refusal.{Refusal}
use Rattle.words.specs.Words.{Word}
use Rattle.asked.specs.declared.Comparison.{Comparison}
use Rattle.answers.specs.Answers.{Answer, of_verdict, of_round, of_comparison, of_printed, of_written_word}
use Rattle.answers.specs.Entries.{check_of, SheetOutcome, sheet_of, RoundOutcome, round_of, WordOutcome, OutputOutcome, output_of}
use Rattle.answers.specs.Demands.{Compared, LeastAnswered}
use Rattle.held.specs.Held.{book_in, book_start, changes_told}
use Rattle.held.specs.Changes.{LoadOutcome, load_of, Change, ChangeOutcome, change_of}
use Rattle.held.specs.Tickets.{ProposalOutcome, propose_of, post_of}
use Rattle.removal.specs.Demands.{RemovalAnswered}
use Rattle.results.specs.declared.CheckResult.{CheckResult}
use Rattle.results.specs.declared.RoundResult.{RoundResult}
use Rattle.results.specs.declared.CompareResult.{CompareResult}
use Rattle.results.specs.declared.LeastResult.{LeastResult}
use Rattle.results.specs.declared.ProgramResult.{ProgramResult}
use Rattle.results.specs.declared.HeldResult.{HeldResult}
use Rattle.results.specs.Numbers.{check_result, round_result, compare_result, least_result, program_result, held_result}
use Rattle.asked.specs.declared.Round.{Round}
use Rattle.asked.specs.declared.Lengths.{Lengths}
use Rattle.results.specs.Calls.{SheetNumbers, sheet_numbers, RoundNumbers, round_numbers, ComparedNumbers, LeastNumbered, RemovalNumbered, ProgramNumbers, program_numbers, LoadNumbers, load_numbers, ChangeNumbers, change_numbers, ProposalNumbers, proposal_numbers}

-- the numbers of an answer that is the definition's are the definition's numbers
pub check_passes : (book : List ℕ) (verdict : Result ℕ Refusal) (r : CheckResult) → of_verdict verdict ≡ check_of book → r ≡ check_result (of_verdict verdict)
    → r ≡ check_result (check_of book)
check_passes book verdict r e f = rw (f, e)

pub sheet_passes : (book old sheet : List ℕ) (verdict : Result ℕ Refusal) (r : CheckResult) → SheetOutcome.after (of_verdict verdict) sheet ≡ sheet_of book old
    → r ≡ check_result (of_verdict verdict) → SheetNumbers.after r sheet ≡ sheet_numbers (sheet_of book old)
sheet_passes book old sheet verdict r e f = rw (f, ← e)

pub round_passes : (book u v p a₀ b₀ c₀ a b c : List ℕ) (round : Result (Round Lengths) Refusal) (r : RoundResult)
    → RoundOutcome.after (of_round round) a b c ≡ round_of book u v p a₀ b₀ c₀ → r ≡ round_result (of_round round)
    → RoundNumbers.after r a b c ≡ round_numbers (round_of book u v p a₀ b₀ c₀)
round_passes book u v p a₀ b₀ c₀ a b c round r e f = rw (f, ← e)

pub compare_passes : (book : List ℕ) (u v : Word) (allowance : ℕ) (comparison : Result Comparison Refusal) (r : CompareResult)
    → Compared book u v allowance (of_comparison comparison) → r ≡ compare_result (of_comparison comparison) → ComparedNumbers book u v allowance r
compare_passes book u v allowance comparison r d f =
    record {
      is = f ∙ ap compare_result d.is;
      compared = subst (λ (a : Answer). Compared book u v allowance a) d.is d;
    }

pub least_passes : (book u old buffer : List ℕ) (offset : ℕ) (least : Result ℕ Refusal) (r : LeastResult) → LeastAnswered book u old offset (WordOutcome.after (of_written_word least) buffer)
    → r ≡ least_result (of_written_word least) → LeastNumbered book u old offset r buffer
least_passes book u old buffer offset least r e f = record { is = rw (f, ← e.is); answered = subst (LeastAnswered book u old offset) e.is e }

pub removal_passes : (book u p old buffer : List ℕ) (offset : ℕ) (least : Result ℕ Refusal) (r : LeastResult)
    → RemovalAnswered book u p old offset (WordOutcome.after (of_written_word least) buffer) → r ≡ least_result (of_written_word least) → RemovalNumbered book u p old offset r buffer
removal_passes book u p old buffer offset least r e f = record { is = rw (f, ← e.is); answered = subst (RemovalAnswered book u p old offset) e.is e }

pub program_passes : (input old output : List ℕ) (printed : Result ℕ Refusal) (r : ProgramResult) → OutputOutcome.after (of_printed printed) output ≡ output_of input old
    → r ≡ program_result (of_printed printed) → ProgramNumbers.after r output ≡ program_numbers (output_of input old)
program_passes input old output printed r e f = rw (f, ← e)

pub load_passes : (book old held : List ℕ) (verdict : Result ℕ Refusal) (r : CheckResult) → LoadOutcome.after (of_verdict verdict) held ≡ load_of book old
    → r ≡ check_result (of_verdict verdict) → LoadNumbers.after r held ≡ load_numbers (load_of book old)
load_passes book old held verdict r e f = rw (f, ← e)

pub change_passes : (change : Change) (old lent held sheet : List ℕ) (verdict : Result ℕ Refusal) (r : CheckResult)
    → ChangeOutcome.after (of_verdict verdict) held sheet ≡ change_of change old lent → r ≡ check_result (of_verdict verdict)
    → ChangeNumbers.after r held sheet ≡ change_numbers (change_of change old lent)
change_passes change old lent held sheet verdict r e f = rw (f, ← e)

pub proposal_passes : (change : Change) (held old lent sheet ticket : List ℕ) (verdict : Result ℕ Refusal) (r : CheckResult)
    → ProposalOutcome.after (of_verdict verdict) sheet ticket ≡ propose_of change held old lent → r ≡ check_result (of_verdict verdict)
    → ProposalNumbers.after r sheet ticket ≡ proposal_numbers (propose_of change held old lent)
proposal_passes change held old lent sheet ticket verdict r e f = rw (f, ← e)

pub post_passes : (given old lent held sheet : List ℕ) (verdict : Result ℕ Refusal) (r : CheckResult)
    → ChangeOutcome.after (of_verdict verdict) held sheet ≡ post_of given old lent → r ≡ check_result (of_verdict verdict)
    → ChangeNumbers.after r held sheet ≡ change_numbers (post_of given old lent)
post_passes given old lent held sheet verdict r e f = rw (f, ← e)

pub held_passes : (held book : List ℕ) (start changes : ℕ) (r : HeldResult) → book ≡ book_in held → start ≡ book_start held → changes ≡ changes_told held
    → r ≡ held_result start (length book) changes → r ≡ held_result (book_start held) (length (book_in held)) (changes_told held)
held_passes held book start changes r e f g h = rw (h, e, f, g)

pub ruleset passes = (check_passes, sheet_passes, round_passes, compare_passes, least_passes, removal_passes, program_passes, load_passes, change_passes, proposal_passes, post_passes, held_passes, rules)
