-- Where a given word stands in a text, and what is told of a piece.
use Rattle.std.specs.Prelude.{ℕ, ◌+◌, ◌<◌, ◌≤◌, true, false, cond, Option, Some, None, List, ◌≡◌, leb, length, get_or, drop}
use Rattle.words.specs.Search.{least}
use Rattle.words.specs.Words.{Word, is_prefix}
use Rattle.overlap.specs.Cuts.{is_piece}
use Rattle.layout.specs.Places.{letters_bound, word_most, text_room}
use Rattle.layout.specs.Layout.{Laid, words_in}
use Rattle.pieces.specs.Judging.{PiecesTabled}
use Rattle.moves.specs.declared.Mark.{Mark}
use Rattle.moves.specs.State.{placed_mark, MarkFits}

-- the first place of a text at which a word stands, or the length of the text
unfoldable pub first_place : List ℕ → Word → ℕ
first_place text p = least (length text) (λ q. is_prefix p (drop q text))

-- a text and a word that are short, and the longest piece at each place of the text
pub record Placeable (text longest : List ℕ) (p : Word) : Type 0 where
  pub room : length text ≤ length longest
  pub short : length text ≤ text_room
  pub few : length p ≤ word_most

-- the mark of so many letters from a place on
abbrev pub mark_at : ℕ → ℕ → Mark
mark_at at letters = record { at = at; to = at + letters }

-- where it stands first, if the longest piece there is not shorter
unfoldable pub place_of : List ℕ → List ℕ → Word → Option Mark
place_of text longest p =
    cond (leb (length text) (first_place text p)) None
    (cond (leb (length p) (get_or longest (first_place text p) 0)) (Some (mark_at (first_place text p) (length p))) None)

-- a word of letters, to be sought among n relation words with the table of their longest pieces
pub record Sought (text table : List ℕ) (n : ℕ) (longest : List ℕ) (p : Word) : Type 0 where
  pub laid : Laid text table n
  pub tabled : PiecesTabled text table n longest
  pub letters : (k : ℕ) → k < length p → get_or p k 0 < letters_bound
  pub few : length p ≤ word_most

-- p is a piece, and the mark m is where it stands
pub record PieceStands (text table : List ℕ) (n : ℕ) (p : Word) (m : Mark) : Type 0 where
  pub fits : MarkFits text m
  pub same : placed_mark text m ≡ p
  pub piece : is_piece (words_in text table n) p ≡ true

-- what is told: where the piece stands, or that the word is none
pub record PieceSought (text table : List ℕ) (n : ℕ) (p : Word) (r : Option Mark) : Type 0 where
  pub found : (m : Mark) → r ≡ Some m → PieceStands text table n p m
  pub absent : r ≡ None → is_piece (words_in text table n) p ≡ false
