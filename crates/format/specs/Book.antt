-- What reading a book gives (document 01, "Book bytes" and "Refusals by number", 1 to 6). A book is a list of bytes; a refusal's place is its record's first byte.
-- Records are read in turn, and each is checked in the order 1, 2, 6, 3, 4, 5.
use Rattle.std.specs.Prelude.{ℕ, zero, suc, ◌+◌, ◌*◌, ◌-◌, ◌≤◌, Bool, ◌||◌, not, cond, List, [], ◌∷◌, ◌++◌, ◌≡◌, eqb, leb, ltb, length, get_or, take, drop, Option, Some, None, Result, Ok, Err}
use Rattle.words.specs.Words.{part}
use Rattle.words.specs.Relations.{Relation}
use Rattle.limits.specs.declared.Record.{Record}
use Rattle.limits.specs.Limits.{record_prefix, head_kind, head_payload, head_record, letters_fewest, letters_most, relation_kind, relation_fixed_payload, side_fewest, side_most, relations_most, outside}
use Rattle.refusals.specs.declared.Refusal.{Refusal}
use Rattle.refusals.specs.declared.Refusal.TheVariants.{Short, Kind, Length, Range, UnknownLetter, TooMany}
use Rattle.words.specs.Letters.{unknown_in}
use Rattle.format.specs.declared.HeadFields.{HeadFields}
use Rattle.format.specs.declared.RelationFields.{RelationFields}
use Rattle.format.specs.declared.BookSize.{BookSize}

-- a presentation (document 01: what a book holds): how many letters there are, and the relations
pub record Presentation : Type 0 where
  pub letters : ℕ
  pub relations : List Relation

-- the presentation with one more relation at its end
abbrev pub adding : Presentation → Relation → Presentation
adding presentation relation = record { letters = presentation.letters; relations = presentation.relations ++ (relation ∷ []) }

-- the presentation without the relation of an index; the later ones move down one
abbrev pub without : Presentation → ℕ → Presentation
without presentation i =
    record { letters = presentation.letters; relations = take i presentation.relations ++ drop (suc i) presentation.relations }

-- what a book's bytes give: a presentation, or a refusal
pub data BookReading : Type 0 where
  read : Presentation → BookReading
  refused : Refusal → BookReading

-- the byte at a position
abbrev pub byte : List ℕ → ℕ → ℕ
byte book at = get_or book at 0

-- a two-byte field, little-endian
abbrev pub field : List ℕ → ℕ → ℕ
field book at = byte book at + 256 * byte book (at + 1)

-- the record at a position: two bytes of length, two of kind, then the payload
unfoldable pub record_at : List ℕ → ℕ → Option Record
record_at book at =
    cond (ltb (length book) (at + record_prefix)) None
    (cond (ltb (length book) (at + record_prefix + field book at)) None
    (Some (record { kind = field book (at + 2); from = at + record_prefix; to = at + record_prefix + field book at })))

-- where the bytes end inside the record, the refusal for that; else what its kind and the bounds of its payload give
abbrev pub on_whole : {A : Type 0} → Option Record → A → (ℕ → ℕ → ℕ → A) → A
on_whole None short next = short
on_whole (Some whole) short next = next whole.kind whole.from whole.to

abbrev pub differs : ℕ → ℕ → Bool
differs m n = not (eqb m n)

-- the head whose record begins at `at`: kind 1, one byte A. The lines are the refusals 1, 2, 3, 4, and `place` is what they report
unfoldable pub head_at : ℕ → ℕ → List ℕ → ℕ → Result HeadFields Refusal
head_at most place book at =
    on_whole (record_at book at) (Err (Short place)) (λ kind from to.
    cond (differs kind head_kind) (Err (Kind place))
    (cond (differs (to - from) head_payload) (Err (Length place))
    (cond (outside letters_fewest most (byte book from)) (Err (Range place))
    (Ok (record { letters = byte book from; end = to })))))

-- the fields of a relation, from one position to another: byte m, byte n, and m + n letters. The lines are the refusals 3, 4, 5; a length below 2 differs
-- from 2 + m + n whatever m and n are
unfoldable pub fields_at : ℕ → ℕ → List ℕ → ℕ → ℕ → Result RelationFields Refusal
fields_at letters place book from to =
    cond (differs (to - from) (relation_fixed_payload + byte book from + byte book (from + 1))) (Err (Length place))
    (cond (outside side_fewest side_most (byte book from) || outside side_fewest side_most (byte book (from + 1))) (Err (Range place))
    (cond (unknown_in letters (part book (from + relation_fixed_payload) to)) (Err (UnknownLetter place))
    (Ok (record { left = from + relation_fixed_payload; right = from + relation_fixed_payload + byte book from; end = to }))))

-- the relation (document 01: a rule) whose record begins at `at`: kind 2, where `count` relations stand before it. The lines are the refusals 1, 2, 6, and
-- those of its fields
unfoldable pub relation_at : ℕ → ℕ → ℕ → List ℕ → ℕ → Result RelationFields Refusal
relation_at letters count place book at =
    on_whole (record_at book at) (Err (Short place)) (λ kind from to.
    cond (differs kind relation_kind) (Err (Kind place))
    (cond (leb relations_most count) (Err (TooMany place))
    (fields_at letters place book from to)))

-- a relation given apart from its book, as one record and nothing behind it (document 01, "Rules that come and go"): read as the next one of a book of so many letters
-- and relations. The lines are the refusals 1, 2, 6, then 3 for bytes behind the record, and those of its fields; a head is no relation here either
unfoldable pub addition_at : ℕ → ℕ → ℕ → List ℕ → Result RelationFields Refusal
addition_at letters count place bytes =
    on_whole (record_at bytes 0) (Err (Short place)) (λ kind from to.
    cond (differs kind relation_kind) (Err (Kind place))
    (cond (leb relations_most count) (Err (TooMany place))
    (cond (ltb to (length bytes)) (Err (Length place))
    (fields_at letters place bytes from to))))

-- where the record of relation k begins, by the lengths of the records before it
unfoldable pub relation_start : List ℕ → ℕ → ℕ
relation_start book zero = head_record
relation_start book (suc k) = relation_start book k + record_prefix + field book (relation_start book k)

-- the relation whose words lie from `left` to `right` and from there to `to`
abbrev pub relation_in : List ℕ → ℕ → ℕ → ℕ → Relation
relation_in book left right to = record { left = part book left right; right = part book right to }

-- a refusal of a record goes straight back; else go on with what was read
abbrev pub on_head : Result HeadFields Refusal → (ℕ → ℕ → BookReading) → BookReading
on_head (Err r) next = refused r
on_head (Ok fields) next = next fields.letters fields.end

abbrev pub on_relation : Result RelationFields Refusal → (ℕ → ℕ → ℕ → BookReading) → BookReading
on_relation (Err r) next = refused r
on_relation (Ok fields) next = next fields.left fields.right fields.end

-- the presentation of the bytes before a position, with the relations from there to the end of the book. Each record takes at least four bytes, so that a
-- fuel of the book's length never runs out (FuelSuffices)
unfoldable pub relations_from : ℕ → Presentation → List ℕ → ℕ → BookReading
relations_from zero presentation book at = read presentation
relations_from (suc fuel) presentation book at =
    cond (leb (length book) at) (read presentation)
    (on_relation (relation_at presentation.letters (length presentation.relations) at book at) (λ left right to.
    relations_from fuel (adding presentation (relation_in book left right to)) book to))

-- a book: the head, then the relations
unfoldable pub read_book : List ℕ → BookReading
read_book book = on_head (head_at letters_most 0 book 0) (λ letters to. relations_from (length book) (record { letters = letters; relations = [] }) book to)

-- a fuel of the bytes behind the position is enough: more of it changes nothing
abbrev pub FuelSuffices : Type 0
FuelSuffices = (fuel more : ℕ) (presentation : Presentation) (book : List ℕ) (at : ℕ) → length book ≤ at + fuel → fuel ≤ more
    → relations_from more presentation book at ≡ relations_from fuel presentation book at

-- what the code answers of it: the number of letters and of relations, or the refusal
abbrev pub reading_of : BookReading → Result BookSize Refusal
reading_of (read presentation) = Ok (record { letters = presentation.letters; relations = length presentation.relations })
reading_of (refused r) = Err r
