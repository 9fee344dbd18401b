-- What the parts of an entry give once the book is loaded.
use Rattle.std.specs.Prelude.{ℕ, ◌*◌, ◌<◌, ◌≤◌, cond, Some, List, ◌≡◌, ltb, length}
use Rattle.words.specs.Words.{Word}
use Rattle.limits.specs.Limits.{letters_most, relations_most, sheet_columns}
use Rattle.refusals.specs.declared.Refusal.TheVariants.{Narrow}
use Rattle.moves.specs.declared.Mark.{Mark}
use Rattle.layout.specs.Families.{Ready}
use Rattle.moves.specs.State.{placed_mark}
use Rattle.layout.specs.Layout.{words_in}
use Rattle.layout.specs.Families.{family_by}
use Rattle.leastword.specs.Writing.{Asked, counted_of}
use Rattle.asked.specs.Least.{least_from}
use Rattle.sheet.specs.Sheet.{sheet_bytes, SideIn}
use Rattle.words.specs.Writing.{over}
use Rattle.answers.specs.Answers.{accepted, refusal}
use Rattle.answers.specs.Entries.{SheetOutcome}

-- the table has the words of all sides, with their cuts
pub record SheetReady (table : List ℕ) (relations : ℕ) : Type 0 where
  pub sides : (s : ℕ) → s < 2 * relations → SideIn table s
  pub few : relations ≤ relations_most

-- a checked presentation of so many letters, which are within the limit
pub record LeastLoaded (text table : List ℕ) (n letters : ℕ) : Type 0 where
  pub ready : Ready text table n
  pub few : letters ≤ letters_most

-- a word of which the least word behind a piece was asked, and has so many letters
pub record LeastCounted (text table : List ℕ) (n : ℕ) (u : Word) (piece : Mark) (letters : ℕ) : Type 0 where
  pub asked : Asked text table n u piece
  pub counted : Some letters ≡ counted_of (least_from (words_in text table n) (family_by table n) (placed_mark text piece) u)

-- a word of which the least word behind a piece can be asked, and an array that has room for it
pub record LeastWidenable (text table : List ℕ) (n : ℕ) (u : Word) (piece : Mark) (wide : List ℕ) : Type 0 where
  pub asked : Asked text table n u piece
  pub room : length u ≤ length wide

-- the sheet by the table
unfoldable pub accepted_sheet : List ℕ → ℕ → List ℕ → SheetOutcome
accepted_sheet table relations sheet =
    cond (ltb (length sheet) (sheet_columns * (2 * relations))) (SheetOutcome.after (refusal (Narrow 0)) sheet)
    (SheetOutcome.after (accepted relations) (over (sheet_bytes table (2 * relations)) sheet))
