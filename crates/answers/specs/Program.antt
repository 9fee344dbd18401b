-- What the program's lines say, in the words of the other entries (document 01, "The program"): the first line is the answer of the check of the book, and each line
-- behind `book R` is what the comparison answers for that book, those two words and that allowance.
use Rattle.std.specs.Prelude.{ℕ, ◌+◌, ◌-◌, ◌<◌, ◌≤◌, List, [], ◌++◌, ◌≡◌, length, take, Some, None}
use Rattle.words.specs.Words.{Word, part}
use Rattle.limits.specs.Limits.{record_prefix, comparison_kind, comparison_fixed_payload, input_most}
use Rattle.format.specs.Book.{field, record_at}
use Rattle.spelling.specs.Lines.{line_of, pair_line_of}
use Rattle.output.specs.Requests.{long_field}
use Rattle.output.specs.Program.{refused_text, book_text, same_text, different_text, book_end, program_of}
use Rattle.answers.specs.Answers.{Answer, accepted, same, different, refused}
use Rattle.answers.specs.Entries.{check_of}
use Rattle.answers.specs.Demands.{Compared}

-- an answer and its line: `book R`, `same N`, `different N`, `refused N P`
pub data Line : Answer → List ℕ → Type 0 where
  book_line : (n : ℕ) → Line (accepted n) (line_of book_text n)
  same_line : (n : ℕ) → Line (same n) (line_of same_text n)
  different_line : (n : ℕ) → Line (different n) (line_of different_text n)
  refused_line : (n place : ℕ) → Line (refused n place) (pair_line_of refused_text n place)

-- a comparison that is asked for under a book, and its line: the answer is what the comparison promises, so that it decides wherever the two words are fine
pub record ComparedLine (book : List ℕ) (u v : Word) (allowance : ℕ) (line : List ℕ) : Type 0 where
  pub answer : Answer
  pub compared : Compared book u v allowance answer
  pub says : Line answer line

-- the record at a position of the input asks for the comparison of u and v: it is whole, of kind 3, and its payload is four bytes of the allowance, two for the length of
-- each word, and the letters of both
pub record Asks (input : List ℕ) (at : ℕ) (u v : Word) (allowance end : ℕ) : Type 0 where
  pub size : field input at ≡ comparison_fixed_payload + length u + length v
  pub kind : field input (at + 2) ≡ comparison_kind
  pub allowed : long_field input (at + record_prefix) ≡ allowance
  pub first : field input (at + record_prefix + 4) ≡ length u
  pub second : field input (at + record_prefix + 6) ≡ length v
  pub letters : part input (at + record_prefix + comparison_fixed_payload) end ≡ u ++ v
  pub ends : end ≡ at + record_prefix + comparison_fixed_payload + length u + length v
  pub inside : end ≤ length input

-- it is refused: by 1 where the input ends inside it, by 2 where it is of another kind, by 3 where its length does not fit what its payload says
pub data Stops (input : List ℕ) (at : ℕ) : ℕ → Type 0 where
  short : record_at input at ≡ None → Stops input at 1
  kind : (kind from to : ℕ) → record_at input at ≡ Some (record { kind = kind; from = from; to = to }) → ¬ (kind ≡ comparison_kind) → Stops input at 2
  misfit : (from to : ℕ) → record_at input at ≡ Some (record { kind = comparison_kind; from = from; to = to })
      → ¬ (to - from ≡ comparison_fixed_payload + field input (from + 4) + field input (from + 6)) → Stops input at 3

-- the lines of the records from a position of the input on, under the book before them
pub data Lines (book input : List ℕ) : ℕ → List ℕ → Type 0 where
  -- behind the last record there is none
  none : {at : ℕ} → length input ≤ at → Lines book input at []
  -- a record that is refused has a line, with its first byte as the place, and it is the last
  stops : {at : ℕ} {line : List ℕ} (n : ℕ) → at < length input → Stops input at n → Line (refused n at) line → Lines book input at line
  -- a record that asks for a comparison has its line, and then come those of the records behind it
  compares : {at : ℕ} {lines : List ℕ} (u v : Word) (allowance end : ℕ) (line rest : List ℕ) → Asks input at u v allowance end
      → ComparedLine book u v allowance line → Lines book input end rest → lines ≡ line ++ rest → Lines book input at lines

-- the book of an input: all records before the first of kind 3
abbrev pub book_before : List ℕ → List ℕ
book_before input = take (book_end input) input

-- the line of the check's answer is the whole output where the book is refused; else it is the first line, and the others follow
pub record Programmed (input : List ℕ) : Type 0 where
  pub refuses : (n place : ℕ) → check_of (book_before input) ≡ refused n place → Line (refused n place) (program_of input)
  pub accepts : (n : ℕ) → check_of (book_before input) ≡ accepted n
      → (line : List ℕ) × (rest : List ℕ) × Line (accepted n) line × Lines (book_before input) input (book_end input) rest × (program_of input ≡ line ++ rest)

-- of every input that is not refused by 13
abbrev pub ProgramCompares : Type 0
ProgramCompares = (input : List ℕ) → length input ≤ input_most → Programmed input
