-- What each C function promises: its entry's outcome, as the numbers of `results`, with the lent buffers.
use Rattle.std.specs.Prelude.{ℕ, List, ◌≡◌}
use Rattle.words.specs.Words.{Word}
use Rattle.answers.specs.Entries.{SheetOutcome, RoundOutcome, compare_of, WordOutcome, least_of, OutputOutcome}
use Rattle.answers.specs.Demands.{Compared, LeastAnswered}
use Rattle.held.specs.Changes.{LoadOutcome, ChangeOutcome}
use Rattle.held.specs.Tickets.{ProposalOutcome}
use Rattle.removal.specs.Removal.{removal_of}
use Rattle.removal.specs.Demands.{RemovalAnswered}
use Rattle.results.specs.declared.CheckResult.{CheckResult}
use Rattle.results.specs.declared.RoundResult.{RoundResult}
use Rattle.results.specs.declared.CompareResult.{CompareResult}
use Rattle.results.specs.declared.LeastResult.{LeastResult}
use Rattle.results.specs.declared.ProgramResult.{ProgramResult}
use Rattle.results.specs.Numbers.{check_result, round_result, compare_result, least_result, program_result}

-- the version of the C functions: 10,000 times the first part, 100 times the second, and the third
abbrev pub version : ℕ
version = 800

-- what the cut sheet returns, and the lent buffer after it
pub data SheetNumbers : Type 0 where
  after : CheckResult → List ℕ → SheetNumbers

abbrev pub sheet_numbers : SheetOutcome → SheetNumbers
sheet_numbers (SheetOutcome.after a sheet) = SheetNumbers.after (check_result a) sheet

-- what the round returns, and the three lent buffers after it
pub data RoundNumbers : Type 0 where
  after : RoundResult → List ℕ → List ℕ → List ℕ → RoundNumbers

abbrev pub round_numbers : RoundOutcome → RoundNumbers
round_numbers (RoundOutcome.after a next_u next_v next_p) = RoundNumbers.after (round_result a) next_u next_v next_p

-- the numbers are those of the definition's answer, of which all is promised that the entry promises
pub record ComparedNumbers (book : List ℕ) (u v : Word) (allowance : ℕ) (r : CompareResult) : Type 0 where
  pub is : r ≡ compare_result (compare_of book u v allowance)
  pub compared : Compared book u v allowance (compare_of book u v allowance)

-- what the least word returns, and the lent buffer after it
pub data LeastNumbers : Type 0 where
  after : LeastResult → List ℕ → LeastNumbers

abbrev pub least_numbers : WordOutcome → LeastNumbers
least_numbers (WordOutcome.after a buffer) = LeastNumbers.after (least_result a) buffer

-- the numbers and the buffer are those of the definition's outcome, of which all is promised that the entry promises
pub record LeastNumbered (book : List ℕ) (u : Word) (old : List ℕ) (offset : ℕ) (r : LeastResult) (buffer : List ℕ) : Type 0 where
  pub is : LeastNumbers.after r buffer ≡ least_numbers (least_of book u old offset)
  pub answered : LeastAnswered book u old offset (least_of book u old offset)

-- the same of the removal of a prefix
pub record RemovalNumbered (book : List ℕ) (u p : Word) (old : List ℕ) (offset : ℕ) (r : LeastResult) (buffer : List ℕ) : Type 0 where
  pub is : LeastNumbers.after r buffer ≡ least_numbers (removal_of book u p old offset)
  pub answered : RemovalAnswered book u p old offset (removal_of book u p old offset)

-- what the program returns, and the lent buffer after it
pub data ProgramNumbers : Type 0 where
  after : ProgramResult → List ℕ → ProgramNumbers

abbrev pub program_numbers : OutputOutcome → ProgramNumbers
program_numbers (OutputOutcome.after a output) = ProgramNumbers.after (program_result a) output

-- what the loading of a held book returns, and the lent buffer after it
pub data LoadNumbers : Type 0 where
  after : CheckResult → List ℕ → LoadNumbers

abbrev pub load_numbers : LoadOutcome → LoadNumbers
load_numbers (LoadOutcome.after a held) = LoadNumbers.after (check_result a) held

-- what a change returns, and both lent buffers after it
pub data ChangeNumbers : Type 0 where
  after : CheckResult → List ℕ → List ℕ → ChangeNumbers

abbrev pub change_numbers : ChangeOutcome → ChangeNumbers
change_numbers (ChangeOutcome.after a held sheet) = ChangeNumbers.after (check_result a) held sheet

-- what a proposal returns, and both lent buffers after it
pub data ProposalNumbers : Type 0 where
  after : CheckResult → List ℕ → List ℕ → ProposalNumbers

abbrev pub proposal_numbers : ProposalOutcome → ProposalNumbers
proposal_numbers (ProposalOutcome.after a sheet ticket) = ProposalNumbers.after (check_result a) sheet ticket
