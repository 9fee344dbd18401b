-- Where the relation words, their cuts, their numbers of pieces, the sides, the families and the index lie in the text and the table: the limits that this goes by,
-- the columns of the table's rows and its cells.
-- `layout::fixed_places` promises that the constants of the code are these numbers.
use Rattle.std.specs.Prelude.{ℕ, ◌+◌, ◌*◌, List, [], ◌∷◌}
use Rattle.limits.specs.Limits.{letters_most, relations_most, side_most}

-- sides, and so relation words, are at most
abbrev pub words_most : ℕ
words_most = 2 * relations_most

-- the letters of a relation word are at most
abbrev pub word_most : ℕ
word_most = side_most

-- every letter is below this number; the codes from it on are fences
abbrev pub letters_bound : ℕ
letters_bound = letters_most

-- the fence behind relation word i
abbrev pub fence_of : ℕ → ℕ
fence_of i = letters_bound + i

-- the room of a text that holds all relation words, each with its fence
abbrev pub text_room : ℕ
text_room = words_most * (word_most + 1)

-- a relation word has a row of the table: its start, the end of X, the start of Z and its end
abbrev pub columns : ℕ
columns = 4

abbrev pub start_column : ℕ
start_column = 0

abbrev pub x_end_column : ℕ
x_end_column = 1

abbrev pub z_start_column : ℕ
z_start_column = 2

abbrev pub end_column : ℕ
end_column = 3

abbrev pub start_cell : ℕ → ℕ
start_cell i = columns * i + start_column

abbrev pub x_end_cell : ℕ → ℕ
x_end_cell i = columns * i + x_end_column

abbrev pub z_start_cell : ℕ → ℕ
z_start_cell i = columns * i + z_start_column

abbrev pub end_cell : ℕ → ℕ
end_cell i = columns * i + end_column

-- all positions: behind the last row stands where a further word would start
abbrev pub positions : ℕ
positions = columns * words_most + 1

-- the number of pieces of each relation word stands behind the positions
abbrev pub pieces_from : ℕ
pieces_from = positions

abbrev pub pieces_cell : ℕ → ℕ
pieces_cell i = pieces_from + i

-- for each side the number of its word; then how many words there are
abbrev pub side_from : ℕ
side_from = pieces_from + words_most

abbrev pub side_cell : ℕ → ℕ
side_cell s = side_from + s

abbrev pub count_cell : ℕ
count_cell = side_from + words_most

-- for each relation word the number of its family, which is its lowest member; and the next member
abbrev pub family_from : ℕ
family_from = count_cell + 1

abbrev pub family_cell : ℕ → ℕ
family_cell i = family_from + i

abbrev pub next_from : ℕ
next_from = family_from + words_most

abbrev pub next_cell : ℕ → ℕ
next_cell i = next_from + i

-- the index stands behind the families: for each letter, and once more, the place from which its words are listed; the list; what neighbours in it share
abbrev pub first_from : ℕ
first_from = next_from + words_most

abbrev pub order_from : ℕ
order_from = first_from + letters_bound + 1

abbrev pub shared_from : ℕ
shared_from = order_from + words_most

abbrev pub first_cell : ℕ → ℕ
first_cell c = first_from + c

abbrev pub order_cell : ℕ → ℕ
order_cell j = order_from + j

abbrev pub shared_cell : ℕ → ℕ
shared_cell j = shared_from + j

-- the room of the whole table
abbrev pub table_room : ℕ
table_room = shared_from + words_most

-- the numbers of this page, as the code gives its constants: limits, room of the text, columns, parts and room of the table
abbrev pub fixed_places : List ℕ
fixed_places =
    words_most ∷ word_most ∷ letters_bound ∷ text_room
    ∷ columns ∷ start_column ∷ x_end_column ∷ z_start_column ∷ end_column
    ∷ positions ∷ pieces_from ∷ side_from ∷ count_cell ∷ family_from ∷ next_from ∷ first_from ∷ order_from ∷ shared_from ∷ table_room ∷ []
