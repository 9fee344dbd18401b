-- The limits (document 01, "Fixed amounts") for the definitions: each is proved equal to the constant of the code that names it, a list for each type of the code
-- (`Head::amounts` and so on). And what the constructors answer.
use Rattle.std.specs.Prelude.{ℕ, ◌+◌, ◌*◌, Bool, ◌||◌, cond, List, [], ◌∷◌, ltb, Option, Some, None}
use Rattle.limits.specs.declared.Head.{Head}
use Rattle.limits.specs.declared.Relation.{Relation}
use Rattle.limits.specs.declared.Word.{Word}
use Rattle.limits.specs.declared.Input.{Input}

-- a record has so many bytes of length and kind
abbrev pub record_prefix : ℕ
record_prefix = 4

abbrev pub record_amounts : List ℕ
record_amounts = record_prefix ∷ []

-- a head (kind 1): the bytes of its payload and of its record
abbrev pub head_kind : ℕ
head_kind = 1

abbrev pub head_payload : ℕ
head_payload = 1

abbrev pub head_record : ℕ
head_record = record_prefix + head_payload

-- A, the number of letters, is at least and at most
abbrev pub letters_fewest : ℕ
letters_fewest = 1

abbrev pub letters_most : ℕ
letters_most = 64

abbrev pub head_amounts : List ℕ
head_amounts = head_kind ∷ head_payload ∷ head_record ∷ letters_fewest ∷ letters_most ∷ []

-- a relation (kind 2; document 01: a rule): the bytes of its payload that stand before the letters
abbrev pub relation_kind : ℕ
relation_kind = 2

abbrev pub relation_fixed_payload : ℕ
relation_fixed_payload = 2

-- the letters of a relation word (document 01: steps of a side) are at least and at most
abbrev pub side_fewest : ℕ
side_fewest = 1

abbrev pub side_most : ℕ
side_most = 64

-- the bytes of its record are at most
abbrev pub relation_record : ℕ
relation_record = record_prefix + relation_fixed_payload + 2 * side_most

-- relations of a book are at most
abbrev pub relations_most : ℕ
relations_most = 32

abbrev pub relation_amounts : List ℕ
relation_amounts = relation_kind ∷ relation_fixed_payload ∷ side_fewest ∷ side_most ∷ relation_record ∷ relations_most ∷ []

-- a comparison (kind 3): the bytes of its payload that stand before the letters
abbrev pub comparison_kind : ℕ
comparison_kind = 3

abbrev pub comparison_fixed_payload : ℕ
comparison_fixed_payload = 8

-- the rounds of an allowance are at most
abbrev pub allowance_most : ℕ
allowance_most = 4294967295

abbrev pub comparison_amounts : List ℕ
comparison_amounts = comparison_kind ∷ comparison_fixed_payload ∷ allowance_most ∷ []

-- the letters of a compared word are at most
abbrev pub compared_most : ℕ
compared_most = 4096

-- the letters of a word given to a single round are at most
abbrev pub round_most : ℕ
round_most = 4160

-- the room of a round's next word
abbrev pub next_room : ℕ
next_room = 4224

-- the letters of a front mark, and the room of the next one
abbrev pub mark_most : ℕ
mark_most = 64

-- the letters of a least word are at most: those of a relation word for each letter of a given word
abbrev pub least_most : ℕ
least_most = side_most * compared_most

-- the step of the places of refusals 9 and 10
abbrev pub place_spacing : ℕ
place_spacing = 5000

abbrev pub word_amounts : List ℕ
word_amounts = compared_most ∷ round_most ∷ next_room ∷ mark_most ∷ least_most ∷ place_spacing ∷ []

-- the cut sheet has a row of bytes for each relation word: the lengths of X, Y and Z, and the number of pieces
abbrev pub sheet_x : ℕ
sheet_x = 0

abbrev pub sheet_y : ℕ
sheet_y = 1

abbrev pub sheet_z : ℕ
sheet_z = 2

abbrev pub sheet_pieces : ℕ
sheet_pieces = 3

abbrev pub sheet_columns : ℕ
sheet_columns = 4

abbrev pub sheet_amounts : List ℕ
sheet_amounts = sheet_x ∷ sheet_y ∷ sheet_z ∷ sheet_pieces ∷ sheet_columns ∷ []

-- a held book: two-byte fields for the length of a book and for the count of its changes, at these places, and then the book
abbrev pub held_length_at : ℕ
held_length_at = 0

abbrev pub held_changes_at : ℕ
held_changes_at = 2

-- the bytes before the book
abbrev pub held_prefix : ℕ
held_prefix = 4

-- the bytes of a book are at most: a head, and the most relations at their longest
abbrev pub book_most : ℕ
book_most = head_record + relations_most * relation_record

-- the room of a held book
abbrev pub held_room : ℕ
held_room = held_prefix + book_most

-- a held book takes at most so many changes from loading
abbrev pub changes_most : ℕ
changes_most = 60000

-- the number of a held book's buffer in refusal 12
abbrev pub held_buffer : ℕ
held_buffer = 1

abbrev pub held_amounts : List ℕ
held_amounts = held_length_at ∷ held_changes_at ∷ held_prefix ∷ book_most ∷ held_room ∷ changes_most ∷ held_buffer ∷ []

-- a ticket: two-byte fields for a count of changes, for the kind of a change and for a number, at these places, and then the bytes of a record
abbrev pub ticket_changes_at : ℕ
ticket_changes_at = 0

abbrev pub ticket_kind_at : ℕ
ticket_kind_at = 2

abbrev pub ticket_number_at : ℕ
ticket_number_at = 4

-- the bytes before the record
abbrev pub ticket_prefix : ℕ
ticket_prefix = 6

-- the room of a ticket: that of the record of a relation at its longest
abbrev pub ticket_room : ℕ
ticket_room = ticket_prefix + relation_record

-- the number of a ticket's buffer in refusal 12
abbrev pub ticket_buffer : ℕ
ticket_buffer = 2

-- the kinds of changes
abbrev pub addition_kind : ℕ
addition_kind = 0

abbrev pub withdrawal_kind : ℕ
withdrawal_kind = 1

abbrev pub ticket_amounts : List ℕ
ticket_amounts = ticket_changes_at ∷ ticket_kind_at ∷ ticket_number_at ∷ ticket_prefix ∷ ticket_room ∷ ticket_buffer ∷ addition_kind ∷ withdrawal_kind ∷ []

-- the bytes of the program's input are at most
abbrev pub input_most : ℕ
input_most = 60000

abbrev pub input_amounts : List ℕ
input_amounts = input_most ∷ []

-- the number is below the least or above the most
abbrev pub outside : ℕ → ℕ → ℕ → Bool
outside least most x = ltb x least || ltb most x

-- what the constructors of the code answer
unfoldable pub head_of : ℕ → Option Head
head_of letters = cond (outside letters_fewest letters_most letters) None (Some (record { letters = letters }))

unfoldable pub relation_of : ℕ → ℕ → Option Relation
relation_of left right =
    cond (outside side_fewest side_most left || outside side_fewest side_most right) None (Some (record { left = left; right = right }))

unfoldable pub word_of : ℕ → ℕ → Option Word
word_of most letters = cond (ltb most letters) None (Some (record { length = letters }))

unfoldable pub input_of : ℕ → Option Input
input_of bytes = cond (ltb input_most bytes) None (Some (record { length = bytes }))
