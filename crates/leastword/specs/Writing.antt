-- What writing the least word of a given word, behind a piece or behind nothing, into a lent buffer asks, and what it leaves there.
use Rattle.std.specs.Prelude.{ℕ, ◌+◌, ◌*◌, ◌≤◌, Option, Some, None, List, ◌≡◌, length}
use Rattle.words.specs.Words.{Word}
use Rattle.writing.specs.Writing.{Bytes}
use Rattle.words.specs.Writing.{written, over}
use Rattle.overlap.specs.Pieces.{IsPiece}
use Rattle.limits.specs.Limits.{side_most, compared_most}
use Rattle.layout.specs.Layout.{words_in}
use Rattle.least.specs.Writing.{Found, found, absent}
use Rattle.moves.specs.declared.Mark.{Mark}
use Rattle.moves.specs.State.{placed_mark, MarkFits}
use Rattle.layout.specs.Families.{Ready}
use Rattle.parts.specs.declared.Source.{Source}
use Rattle.parts.specs.State.{LettersLow, SourceFits}

-- a word of which the least word behind a mark can be asked: within the limit, of letters that a head can have, under a checked presentation, of which the mark
-- is a piece that lies in the text
pub record Asked (text table : List ℕ) (n : ℕ) (given : Word) (mark : Mark) : Type 0 where
  pub ready : Ready text table n
  pub short : length given ≤ compared_most
  pub low : LettersLow given
  pub fits : MarkFits text mark
  pub piece : IsPiece (words_in text table n) (placed_mark text mark)

-- no more letters are ever written than those of a relation word in each round; for each letter of the given word there is at most one round more than a relation word has letters
abbrev pub written_most : ℕ
written_most = side_most * ((side_most + 1) * compared_most)

-- letters that fit in bytes, to be written behind so many others
pub record LettersPuttable (c : Word) (at : ℕ) : Type 0 where
  pub bytes : Bytes c
  pub short : length c ≤ side_most
  pub few : at ≤ written_most

-- a part of the least word, to be written behind so many letters
pub record Puttable (text : List ℕ) (given : Word) (source : Source) (at : ℕ) : Type 0 where
  pub fits : SourceFits text given source
  pub low : LettersLow given
  pub few : at ≤ written_most

-- c was written over d from place `at` on if it has room there, which left b; r is the place behind it
pub record Put (c d : List ℕ) (at : ℕ) (b : List ℕ) (r : ℕ) : Type 0 where
  pub behind : r ≡ at + length c
  pub long : length b ≡ length d
  pub same : at + length c ≤ length d → b ≡ written at c d

-- how many letters a word that was found has
abbrev pub counted_of : Found → Option ℕ
counted_of (found w) = Some (length w)
counted_of absent = None

-- what was found was written over d if it has room there, which left b; r tells how many letters it has
pub record PutFound (f : Found) (d b : List ℕ) (r : Option ℕ) : Type 0 where
  pub counted : r ≡ counted_of f
  pub long : length b ≡ length d
  pub same : (w : Word) → f ≡ found w → length w ≤ length d → b ≡ over w d
