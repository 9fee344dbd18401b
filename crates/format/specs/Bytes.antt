-- The bytes of a book (document 01, "Book bytes"), the inverse of reading.
use Rattle.std.specs.Prelude.{ℕ, ◌/◌, ◌%◌, ◌<◌, ◌≤◌, List, [], ◌∷◌, ◌++◌, ◌≡◌, length, get_or, Some, Ok, Err}
use Rattle.words.specs.Words.{Word}
use Rattle.words.specs.Relations.{Relation}
use Rattle.limits.specs.Limits.{head_kind, letters_fewest, letters_most, relation_kind, side_fewest, side_most, relations_most, book_most}
use Rattle.refusals.specs.declared.Refusal.{Refusal}
use Rattle.refusals.specs.declared.Refusal.TheVariants.{Short, Length}
use Rattle.format.specs.Book.{Presentation, adding, read, refused, record_at, addition_at, relation_in, read_book}

-- a two-byte field, little-endian
abbrev pub field_bytes : ℕ → List ℕ
field_bytes n = n % 256 ∷ n / 256 ∷ []

-- a record: its length, its kind, its payload
abbrev pub record_bytes : ℕ → List ℕ → List ℕ
record_bytes kind payload = field_bytes (length payload) ++ (field_bytes kind ++ payload)

abbrev pub head_bytes : ℕ → List ℕ
head_bytes letters = record_bytes head_kind (letters ∷ [])

abbrev pub relation_bytes : Relation → List ℕ
relation_bytes r = record_bytes relation_kind (length r.left ∷ length r.right ∷ (r.left ++ r.right))

unfoldable pub relations_bytes : List Relation → List ℕ
relations_bytes [] = []
relations_bytes (r ∷ rs) = relation_bytes r ++ relations_bytes rs

-- the bytes of a book
unfoldable pub book_bytes : Presentation → List ℕ
book_bytes presentation = head_bytes presentation.letters ++ relations_bytes presentation.relations

-- a relation word within the limits: 1 to 64 letters, each below the number of letters
pub record WordWithin (letters : ℕ) (w : Word) : Type 0 where
  pub some : side_fewest ≤ length w
  pub short : length w ≤ side_most
  pub known : (i : ℕ) → i < length w → get_or w i 0 < letters

pub record RelationWithin (letters : ℕ) (r : Relation) : Type 0 where
  pub left : WordWithin letters r.left
  pub right : WordWithin letters r.right

pub data AllWithin (letters : ℕ) : List Relation → Type 0 where
  none : AllWithin letters []
  more : {r : Relation} {rs : List Relation} → RelationWithin letters r → AllWithin letters rs → AllWithin letters (r ∷ rs)

-- a presentation within the limits
pub record Within (presentation : Presentation) : Type 0 where
  pub some : letters_fewest ≤ presentation.letters
  pub few : presentation.letters ≤ letters_most
  pub few_relations : length presentation.relations ≤ relations_most
  pub all : AllWithin presentation.letters presentation.relations

-- reading the bytes of a presentation within the limits gives it back
abbrev pub ReadBytes : Type 0
ReadBytes = (presentation : Presentation) → Within presentation → read_book (book_bytes presentation) ≡ read presentation

-- what is read is within the limits
abbrev pub ReadWithin : Type 0
ReadWithin = (book : List ℕ) (presentation : Presentation) → read_book book ≡ read presentation → Within presentation

-- each is a byte
abbrev pub AreBytes : List ℕ → Type 0
AreBytes s = (i : ℕ) → get_or s i 0 < 256

-- bytes that are read are the bytes of what was read: a presentation is written in one way only
abbrev pub BytesUnique : Type 0
BytesUnique = (book : List ℕ) (presentation : Presentation) → AreBytes book → read_book book ≡ read presentation → book ≡ book_bytes presentation

-- a presentation within the limits has at most so many bytes: a head, and 32 relations at their longest
abbrev pub BytesFew : Type 0
BytesFew = (presentation : Presentation) → Within presentation → length (book_bytes presentation) ≤ book_most

-- a relation that is given apart from its book is read as if its bytes stood at the book's end
pub record AdditionsRead : Type 0 where
  -- what is read is the next relation
  pub next : (book bytes : List ℕ) (presentation : Presentation) (left right to : ℕ) → read_book book ≡ read presentation
      → addition_at presentation.letters (length presentation.relations) (length book) bytes ≡ Ok (record { left = left; right = right; end = to })
      → read_book (book ++ bytes) ≡ read (adding presentation (relation_in bytes left right to))
  -- what is refused is refused there, if there are bytes and none behind a whole record
  pub refuses : (book bytes : List ℕ) (presentation : Presentation) (r : Refusal) → read_book book ≡ read presentation
      → addition_at presentation.letters (length presentation.relations) (length book) bytes ≡ Err r
      → 1 ≤ length bytes → ((kind from to : ℕ) → record_at bytes 0 ≡ Some (record { kind = kind; from = from; to = to }) → to ≡ length bytes)
      → read_book (book ++ bytes) ≡ refused r
  -- no bytes are 1
  pub none : (letters count place : ℕ) → addition_at letters count place [] ≡ Err (Short place)
  -- bytes behind a relation's record are 3, unless that would be one relation too many, and whatever its fields say
  pub behind : (letters count place : ℕ) (bytes : List ℕ) (from to : ℕ) → record_at bytes 0 ≡ Some (record { kind = relation_kind; from = from; to = to }) → count < relations_most → to < length bytes
      → addition_at letters count place bytes ≡ Err (Length place)
