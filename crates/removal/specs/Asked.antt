-- What the parts of the entry ask once the book is loaded.
use Rattle.std.specs.Prelude.{ℕ, List, ◌≡◌, Ok}
use Rattle.words.specs.Words.{Word}
use Rattle.limits.specs.Limits.{mark_most}
use Rattle.pieces.specs.Judging.{PiecesTabled}
use Rattle.asked.specs.Given.{given_of, marked_of}
use Rattle.answers.specs.Parts.{LeastLoaded}

-- a checked presentation of so many letters, with the table of its longest pieces
pub record Removable (text table longest : List ℕ) (n letters : ℕ) : Type 0 where
  pub loaded : LeastLoaded text table n letters
  pub tabled : PiecesTabled text table n longest

-- the same, and a front mark that is fine
pub record PrefixGiven (text table longest : List ℕ) (n : ℕ) (p : Word) : Type 0 where
  pub letters : ℕ
  pub known : Removable text table longest n letters
  pub fine : given_of 2 mark_most letters p ≡ Ok tt

-- the same, and a word and a front mark that are fine
pub record Marked (text table longest : List ℕ) (n : ℕ) (u p : Word) : Type 0 where
  pub letters : ℕ
  pub known : Removable text table longest n letters
  pub fine : marked_of letters u p ≡ Ok tt
