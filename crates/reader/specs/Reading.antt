-- What the reader of a book promises: its answer, and the relation words laid in the text and the table, each once, with the number of each side's word.
use Rattle.std.specs.Prelude.{ℕ, ◌*◌, List, ◌≡◌, length, Result}
use Rattle.words.specs.Relations.{relation_words}
use Rattle.words.specs.Families.{side_words, words_of}
use Rattle.layout.specs.Layout.{Laid, words_in}
use Rattle.layout.specs.Families.{sides_in, count_of}
use Rattle.format.specs.declared.BookSize.{BookSize}
use Rattle.format.specs.Book.{Presentation, read, read_book, reading_of}
use Rattle.format.specs.Bytes.{Within}
use Rattle.refusals.specs.declared.Refusal.{Refusal}

-- the arrays hold a presentation: its relation words are laid, each once, in order of first appearance; each side has the number of its word; and all is within
-- the limits, so that every letter is below the number of letters
pub record Stored (presentation : Presentation) (text table : List ℕ) : Type 0 where
  pub laid : Laid text table (count_of table)
  pub words : words_in text table (count_of table) ≡ words_of presentation.relations
  pub sides : sides_in table (2 * length presentation.relations) ≡ side_words (relation_words presentation.relations)
  pub within : Within presentation

-- the answer is what reading the book gives, and where it is read, the arrays hold its presentation
pub record BookRead (book text table : List ℕ) (r : Result BookSize Refusal) (text' table' : List ℕ) : Type 0 where
  pub answer : r ≡ reading_of (read_book book)
  pub stored : (presentation : Presentation) → read_book book ≡ read presentation → Stored presentation text' table'
  pub text_long : length text' ≡ length text
  pub table_long : length table' ≡ length table
