-- What the arrays of a loaded book hold, and what the steps of loading it promise of them.
use Rattle.std.specs.Prelude.{ℕ, ◌*◌, ◌<◌, ◌≤◌, List, ◌≡◌, eqb, length, Result, Ok, Err, ⊤}
use Rattle.words.specs.Search.{least}
use Rattle.words.specs.Relations.{relation_words}
use Rattle.words.specs.Families.{side_words, families_after, words_of, families_of}
use Rattle.limits.specs.Limits.{relations_most}
use Rattle.layout.specs.Places.{words_most, text_room, table_room}
use Rattle.layout.specs.Layout.{Laid, words_in}
use Rattle.layout.specs.Families.{side_word_of, sides_in, count_of, families_in, Grouped}
use Rattle.pieces.specs.declared.Loose.{Loose}
use Rattle.pieces.specs.Judging.{judged_of, PiecesTabled}
use Rattle.refusals.specs.declared.Refusal.{Refusal}
use Rattle.refusals.specs.declared.Refusal.TheVariants as Refusals
use Rattle.format.specs.declared.BookSize.{BookSize}
use Rattle.format.specs.Book.{Presentation, read, reading_of}
use Rattle.format.specs.Bytes.{Within}
use Rattle.loading.specs.Loading.{load_book}

-- the words of so many relations are laid, and each side has the number of one of them
pub record Unchecked (text table : List ℕ) (relations : ℕ) : Type 0 where
  pub laid : Laid text table (count_of table)
  pub room : length table ≡ table_room
  pub few : relations ≤ relations_most
  pub known : (s : ℕ) → s < 2 * relations → side_word_of table s < count_of table

-- the table has cells for so many sides
pub record Sided (table : List ℕ) (sides : ℕ) : Type 0 where
  pub room : length table ≡ table_room
  pub few : sides ≤ words_most

-- the verdict on the laid relation words; where they are accepted, they are the same words, checked and grouped in families; the sides are kept
pub record WordsChecked (text table : List ℕ) (relations : ℕ) (after : List ℕ) (r : Result ⊤ Loose) : Type 0 where
  pub verdict : r ≡ judged_of (words_in text table (count_of table))
  pub grouped : r ≡ Ok tt → Grouped text after (count_of table)
  pub words : r ≡ Ok tt → words_in text after (count_of table) ≡ words_in text table (count_of table)
  pub families : r ≡ Ok tt → families_in after (count_of table) ≡ families_after (sides_in table (2 * relations)) (count_of table) relations
  pub sides : sides_in after (2 * relations) ≡ sides_in table (2 * relations)
  pub counted : count_of after ≡ count_of table
  pub sided : Sided after (2 * relations)

-- the same, and where they are accepted, their longest pieces are kept in an array that has room for them
pub record WordsKept (text table : List ℕ) (relations : ℕ) (array after kept : List ℕ) (r : Result ⊤ Loose) : Type 0 where
  pub checked : WordsChecked text table relations after r
  pub tabled : text_room ≤ length array → r ≡ Ok tt → PiecesTabled text after (count_of after) kept

-- the lowest of the first m sides that has word i, or m
unfoldable pub first_side : List ℕ → ℕ → ℕ → ℕ
first_side table m i = least m (λ s. eqb (side_word_of table s) i)

-- the answer for a book that was read, by the verdict on its relation words: a word's refusal is at its lowest side
abbrev pub by_judged : List ℕ → BookSize → Result ⊤ Loose → Result BookSize Refusal
by_judged table size (Ok u) = Ok size
by_judged table size (Err loose) = Err (Refusals.Loose (first_side table (2 * size.relations) loose.word))

-- the arrays hold the relation words of an accepted book's presentation, which has so many letters and relations: each word once, checked and grouped in families
pub record Holding (book : List ℕ) (letters count : ℕ) (text table : List ℕ) : Type 0 where
  pub presentation : Presentation
  pub is : load_book book ≡ read presentation
  pub lettered : letters ≡ presentation.letters
  pub many : count ≡ length presentation.relations
  pub grouped : Grouped text table (count_of table)
  pub words : words_in text table (count_of table) ≡ words_of presentation.relations
  pub sides : sides_in table (2 * count) ≡ side_words (relation_words presentation.relations)
  pub families : families_in table (count_of table) ≡ families_of presentation.relations
  pub within : Within presentation

-- the two arrays that a book is loaded into
pub record Memory (text table : List ℕ) : Type 0 where
  pub text_roomy : length text ≡ text_room
  pub table_roomy : length table ≡ table_room

-- the answer is what loading the book gives, and where it is accepted, the arrays hold it
pub record BookLoaded (book : List ℕ) (r : Result BookSize Refusal) (text table : List ℕ) : Type 0 where
  pub answer : r ≡ reading_of (load_book book)
  pub held : (size : BookSize) → r ≡ Ok size → Holding book size.letters size.relations text table
  pub memory : Memory text table

-- the same, and where the book is accepted, the longest pieces of its text are kept in an array that has room for them
pub record PiecesKept (book array : List ℕ) (r : Result BookSize Refusal) (text table kept : List ℕ) : Type 0 where
  pub loaded : BookLoaded book r text table
  pub tabled : text_room ≤ length array → (size : BookSize) → r ≡ Ok size → PiecesTabled text table (count_of table) kept
