-- What the writing of the output's lines asks (document 01, "The program").
use Rattle.std.specs.Prelude.{ℕ, ◌+◌, ◌≤◌, List, ◌++◌, length}
use Rattle.layout.specs.Layout.{words_in}
use Rattle.layout.specs.Families.{count_of, family_by, Ready}
use Rattle.spelling.specs.Lines.{line_of}
use Rattle.output.specs.Program.{book_text, lines_from, loaded_output}

-- the lines of the comparison records from a position on, under the relation words of a checked presentation
abbrev pub lines_under : List ℕ → List ℕ → ℕ → ℕ → List ℕ → ℕ → List ℕ
lines_under text table n letters input start = lines_from (length input) letters (words_in text table n) (family_by table n) input start

-- the presentation is checked, the position lies in the input, and there is room for the lines from a place on
pub record Lined (text table : List ℕ) (n letters : ℕ) (input : List ℕ) (start : ℕ) (out : List ℕ) (place : ℕ) : Type 0 where
  pub ready : Ready text table n
  pub within : start ≤ length input
  pub room : place + length (lines_under text table n letters input start) ≤ length out

-- an accepted book's line, then those of the comparisons
abbrev pub lines_of_accepted : List ℕ → List ℕ → ℕ → ℕ → List ℕ → ℕ → List ℕ
lines_of_accepted text table relations letters input end = line_of book_text relations ++ lines_under text table (count_of table) letters input end

-- the presentation is checked, the book ends in the input, and there is room for the lines at the start of the buffer
pub record Accepted (text table : List ℕ) (relations letters : ℕ) (input : List ℕ) (end : ℕ) (out : List ℕ) : Type 0 where
  pub ready : Ready text table (count_of table)
  pub within : end ≤ length input
  pub room : length (lines_of_accepted text table relations letters input end) ≤ length out

-- there is room at the start of the buffer for what is written for an input that is not too long
pub record Roomy (input out : List ℕ) : Type 0 where
  pub room : length (loaded_output input) ≤ length out
