-- Changes of held books and what they give, worked out by hand from document 01 ("Rules that come and go", "Refusals by number", "The cut sheet"), most of them of
-- its book Q.
use Rattle.std.specs.Prelude.{ℕ, List, [], ◌∷◌, ◌++◌, ◌≡◌, take, replicate}
use Rattle.words.specs.Writing.{over}
use Rattle.limits.specs.Limits.{held_room}
use Rattle.format.specs.Examples.{four, abdc_cadb, times}
use Rattle.answers.specs.Answers.{accepted, refused}
use Rattle.held.specs.Held.{holding}
use Rattle.held.specs.Changes.{Change, addition, withdrawal, ChangeOutcome, change_of}

-- what a change gives: a refusal's number and place, or the number of relations, the count of changes, the new book and its sheet
pub data Gives : Type 0 where
  refuses : ℕ → ℕ → Gives
  counts : ℕ → ℕ → List ℕ → List ℕ → Gives

-- a held book's buffer, a change, the length of the lent sheet, and what the change gives
pub record Example : Type 0 where
  pub held : List ℕ
  pub change : Change
  pub lent : ℕ
  pub gives : Gives

-- a buffer of so many bytes that holds a book with a count of changes, and one of so many bytes for a sheet
abbrev pub held_in : ℕ → ℕ → List ℕ → List ℕ
held_in room changes book = holding changes book (replicate room 0)

abbrev pub sheet_in : ℕ → List ℕ
sheet_in lent = replicate lent 170

-- a refusal keeps both; else the new book lies in the first, with its count of changes, and its sheet at the start of the other
abbrev pub outcome : List ℕ → ℕ → Gives → ChangeOutcome
outcome held lent (refuses n place) = ChangeOutcome.after (refused n place) held (sheet_in lent)
outcome held lent (counts n changes book sheet) = ChangeOutcome.after (accepted n) (holding changes book held) (over sheet (sheet_in lent))

-- in a buffer that has just the room of a held book, the first change
abbrev pub adds : List ℕ → List ℕ → ℕ → Gives → Example
adds book bytes lent gives = record { held = held_in held_room 0 book; change = addition bytes; lent = lent; gives = gives }

abbrev pub withdraws : List ℕ → ℕ → ℕ → Gives → Example
withdraws book i lent gives = record { held = held_in held_room 0 book; change = withdrawal i; lent = lent; gives = gives }

abbrev pub makes : ℕ → List ℕ → List ℕ → Gives
makes n book sheet = counts n 1 book sheet

-- book Q, and its relation again
abbrev pub Q : List ℕ
Q = four ++ abdc_cadb

abbrev pub twice : List ℕ
twice = Q ++ abdc_cadb

-- the relation bbaa = ccda, none of whose pairs of letters stands in Q, and Q with it
abbrev pub bbaa_ccda : List ℕ
bbaa_ccda = 10 ∷ 0 ∷ 2 ∷ 0 ∷ 4 ∷ 4 ∷ 1 ∷ 1 ∷ 0 ∷ 0 ∷ 2 ∷ 2 ∷ 3 ∷ 0 ∷ []

abbrev pub both : List ℕ
both = Q ++ bbaa_ccda

-- the relation a = b, both of whose words are pieces beside Q, and Q with it
abbrev pub a_b : List ℕ
a_b = 4 ∷ 0 ∷ 2 ∷ 0 ∷ 1 ∷ 1 ∷ 0 ∷ 1 ∷ []

abbrev pub loose : List ℕ
loose = Q ++ a_b

-- the row of a word of four letters that is a product of its letters and of no fewer pieces, and two and four of them
abbrev pub row : List ℕ
row = 1 ∷ 2 ∷ 1 ∷ 4 ∷ []

abbrev pub rows2 : List ℕ
rows2 = row ++ row

abbrev pub rows4 : List ℕ
rows4 = rows2 ++ rows2

-- a relation of Q and bbaa = ccda is withdrawn after so many changes
abbrev pub withdraws_at : ℕ → ℕ → ℕ → Gives → Example
withdraws_at changes i lent gives = record { held = held_in held_room changes both; change = withdrawal i; lent = lent; gives = gives }

unfoldable pub examples : List Example
examples =
    -- a relation is added: bytes behind the sheet are kept; a sheet of just the room, and one byte below it
    adds Q bbaa_ccda 18 (makes 2 both rows4)
    ∷ adds Q bbaa_ccda 16 (makes 2 both rows4)
    ∷ adds Q bbaa_ccda 15 (refuses 12 0)
    -- to a book without relations; and one that is there already, whose words count once
    ∷ adds four abdc_cadb 8 (makes 1 Q rows2)
    ∷ adds Q abdc_cadb 16 (makes 2 twice rows4)
    -- 8, before 12: a is a piece, of side 2; with ab = dd the letters ab are one, and side 0 is ab d c
    ∷ adds Q a_b 0 (refuses 8 2)
    ∷ adds Q (6 ∷ 0 ∷ 2 ∷ 0 ∷ 2 ∷ 2 ∷ 0 ∷ 1 ∷ 3 ∷ 3 ∷ []) 16 (refuses 8 0)
    -- no bytes, a record that is cut off in its length, its kind, its payload; cut off comes before a wrong kind
    ∷ adds Q [] 16 (refuses 1 19)
    ∷ adds Q (take 1 bbaa_ccda) 16 (refuses 1 19)
    ∷ adds Q (take 3 bbaa_ccda) 16 (refuses 1 19)
    ∷ adds Q (take 13 bbaa_ccda) 16 (refuses 1 19)
    ∷ adds Q (9 ∷ 0 ∷ 7 ∷ 0 ∷ []) 16 (refuses 1 19)
    -- a head is no relation, also with bytes behind it
    ∷ adds Q four 16 (refuses 2 19)
    ∷ adds Q (four ++ bbaa_ccda) 16 (refuses 2 19)
    -- a 33rd relation: another kind comes before it, bytes behind the record come after it
    ∷ adds (four ++ times 32) a_b 264 (refuses 6 261)
    ∷ adds (four ++ times 32) four 264 (refuses 2 261)
    ∷ adds (four ++ times 32) (a_b ++ (0 ∷ [])) 264 (refuses 6 261)
    -- bytes behind the record, whatever its fields say; a second relation among them; a length that does not fit
    ∷ adds Q (bbaa_ccda ++ (0 ∷ [])) 16 (refuses 3 19)
    ∷ adds Q (3 ∷ 0 ∷ 2 ∷ 0 ∷ 0 ∷ 1 ∷ 9 ∷ 0 ∷ []) 16 (refuses 3 19)
    ∷ adds Q (bbaa_ccda ++ abdc_cadb) 16 (refuses 3 19)
    ∷ adds Q (5 ∷ 0 ∷ 2 ∷ 0 ∷ 1 ∷ 1 ∷ 0 ∷ 1 ∷ 0 ∷ []) 16 (refuses 3 19)
    -- a word without letters, which comes before a letter that is not below A; such a letter
    ∷ adds Q (3 ∷ 0 ∷ 2 ∷ 0 ∷ 0 ∷ 1 ∷ 9 ∷ []) 16 (refuses 4 19)
    ∷ adds Q (4 ∷ 0 ∷ 2 ∷ 0 ∷ 1 ∷ 1 ∷ 4 ∷ 1 ∷ []) 16 (refuses 5 19)
    -- the only relation is withdrawn, which leaves no sheet; there is none behind it, nor in a book without relations, and that comes before 12
    ∷ withdraws Q 0 0 (makes 0 four [])
    ∷ withdraws Q 1 0 (refuses 15 0)
    ∷ withdraws four 0 0 (refuses 15 0)
    -- the first of two, which leaves bbaa = ccda, where d stands once; a sheet one byte below its room; the last of two; none behind it
    ∷ withdraws both 0 8 (makes 1 (four ++ bbaa_ccda) (row ++ (1 ∷ 2 ∷ 1 ∷ 255 ∷ [])))
    ∷ withdraws both 0 7 (refuses 12 0)
    ∷ withdraws both 1 9 (makes 1 Q rows2)
    ∷ withdraws both 2 16 (refuses 15 0)
    -- the one in the middle of three
    ∷ withdraws (both ++ abdc_cadb) 1 16 (makes 2 twice rows4)
    -- what is held need not meet C(4): the relation at fault is withdrawn, or another one that leaves it none, or one that does not help; an addition never does
    ∷ withdraws loose 1 8 (makes 1 Q rows2)
    ∷ withdraws loose 0 8 (makes 1 (four ++ a_b) (0 ∷ 1 ∷ 0 ∷ 255 ∷ 0 ∷ 1 ∷ 0 ∷ 255 ∷ []))
    ∷ withdraws (loose ++ bbaa_ccda) 2 16 (refuses 8 2)
    ∷ adds loose bbaa_ccda 24 (refuses 8 2)
    -- what is held was altered and is cut off, which comes before 15 and before the addition's own refusals
    ∷ withdraws (take 18 Q) 5 0 (refuses 1 5)
    ∷ adds (take 18 Q) [] 0 (refuses 1 5)
    ∷ withdraws [] 0 0 (refuses 1 0)
    -- a buffer one byte below the room, which comes before what it holds
    ∷ record { held = held_in 4296 0 (take 18 Q); change = withdrawal 5; lent = 0; gives = refuses 12 1 }
    -- the count of changes goes up to 60,000; then a change is refused, behind all its other refusals; so it is of a count that no call leaves behind
    ∷ record { held = held_in 5000 300 both; change = withdrawal 1; lent = 8; gives = counts 1 301 Q rows2 }
    ∷ withdraws_at 59999 1 8 (counts 1 60000 Q rows2)
    ∷ withdraws_at 60000 1 8 (refuses 17 0)
    ∷ withdraws_at 60000 1 7 (refuses 12 0)
    ∷ withdraws_at 60000 2 8 (refuses 15 0)
    ∷ withdraws_at 60001 1 8 (refuses 17 0)
    ∷ withdraws_at 65535 1 8 (refuses 17 0)
    ∷ record { held = held_in held_room 60000 Q; change = addition bbaa_ccda; lent = 16; gives = refuses 17 0 }
    ∷ record { held = held_in held_room 60000 Q; change = addition a_b; lent = 16; gives = refuses 8 2 }
    ∷ record { held = held_in held_room 60000 Q; change = addition []; lent = 16; gives = refuses 1 19 }
    ∷ []

-- each change gives what stands beside it
pub data Hold : List Example → Type 0 where
  none : Hold []
  more : {e : Example} {es : List Example} → change_of e.change e.held (sheet_in e.lent) ≡ outcome e.held e.lent e.gives → Hold es → Hold (e ∷ es)
