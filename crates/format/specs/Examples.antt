-- Books and what reading them gives, worked out from document 01 ("Book bytes", "Refusals by number", "Bench cases").
use Rattle.std.specs.Prelude.{ℕ, zero, suc, List, [], ◌∷◌, ◌++◌, ◌≡◌, take, replicate}
use Rattle.words.specs.Relations.{Relation}
use Rattle.refusals.specs.declared.Refusal.TheVariants.{Short, Kind, Length, Range, UnknownLetter, TooMany}
use Rattle.format.specs.Book.{BookReading, read, refused, read_book}

pub record Example : Type 0 where
  pub book : List ℕ
  pub gives : BookReading

infixl 2 ◌gives◌
abbrev pub ◌gives◌ : List ℕ → BookReading → Example
book gives reading = record { book = book; gives = reading }

-- the book is read: so many letters, and these relations
abbrev reads : ℕ → List Relation → BookReading
reads letters relations = read (record { letters = letters; relations = relations })

-- the head of four letters
abbrev pub four : List ℕ
four = 1 ∷ 0 ∷ 1 ∷ 0 ∷ 4 ∷ []

-- document 01's relation abdc = cadb (book Q)
abbrev pub abdc_cadb : List ℕ
abdc_cadb = 10 ∷ 0 ∷ 2 ∷ 0 ∷ 4 ∷ 4 ∷ 0 ∷ 1 ∷ 3 ∷ 2 ∷ 2 ∷ 0 ∷ 3 ∷ 1 ∷ []

abbrev pub Q : Relation
Q = record { left = 0 ∷ 1 ∷ 3 ∷ 2 ∷ []; right = 2 ∷ 0 ∷ 3 ∷ 1 ∷ [] }

-- the relation a = b, n times
unfoldable pub times : ℕ → List ℕ
times zero = []
times (suc n) = 4 ∷ 0 ∷ 2 ∷ 0 ∷ 1 ∷ 1 ∷ 0 ∷ 1 ∷ times n

-- 64 letters
abbrev pub sixty_four : List ℕ
sixty_four = replicate 64 3

unfoldable pub examples : List Example
examples =
    -- the empty book, a head alone, and Q
    ([] gives refused (Short 0))
    ∷ (four gives reads 4 [])
    ∷ ((four ++ abdc_cadb) gives reads 4 (Q ∷ []))
    ∷ ((four ++ (abdc_cadb ++ abdc_cadb)) gives reads 4 (Q ∷ Q ∷ []))
    -- cut off inside the head, inside the relation's length, its kind, its payload
    ∷ (take 3 four gives refused (Short 0))
    ∷ (take 4 four gives refused (Short 0))
    ∷ (take 6 (four ++ abdc_cadb) gives refused (Short 5))
    ∷ (take 8 (four ++ abdc_cadb) gives refused (Short 5))
    ∷ (take 18 (four ++ abdc_cadb) gives refused (Short 5))
    -- cut off comes before a wrong kind
    ∷ ((9 ∷ 0 ∷ 7 ∷ 0 ∷ []) gives refused (Short 0))
    -- a relation first, a second head, a kind 3 record, a kind of two bytes
    ∷ (abdc_cadb gives refused (Kind 0))
    ∷ ((four ++ four) gives refused (Kind 5))
    ∷ ((four ++ (0 ∷ 0 ∷ 3 ∷ 0 ∷ [])) gives refused (Kind 5))
    ∷ ((four ++ (4 ∷ 0 ∷ 2 ∷ 1 ∷ 1 ∷ 1 ∷ 0 ∷ 1 ∷ [])) gives refused (Kind 5))
    -- lengths that do not fit: of a head, below 2, one more and one less than 2 + m + n, and a sum that a byte would wrap
    ∷ ((2 ∷ 0 ∷ 1 ∷ 0 ∷ 4 ∷ 4 ∷ []) gives refused (Length 0))
    ∷ ((four ++ (0 ∷ 0 ∷ 2 ∷ 0 ∷ [])) gives refused (Length 5))
    ∷ ((four ++ (1 ∷ 0 ∷ 2 ∷ 0 ∷ 1 ∷ [])) gives refused (Length 5))
    ∷ ((four ++ (5 ∷ 0 ∷ 2 ∷ 0 ∷ 1 ∷ 1 ∷ 0 ∷ 1 ∷ 0 ∷ [])) gives refused (Length 5))
    ∷ ((four ++ (3 ∷ 0 ∷ 2 ∷ 0 ∷ 1 ∷ 1 ∷ 0 ∷ [])) gives refused (Length 5))
    ∷ ((four ++ (2 ∷ 0 ∷ 2 ∷ 0 ∷ 255 ∷ 1 ∷ [])) gives refused (Length 5))
    -- ranges: A, m and n; the length comes first
    ∷ ((1 ∷ 0 ∷ 1 ∷ 0 ∷ 0 ∷ []) gives refused (Range 0))
    ∷ ((1 ∷ 0 ∷ 1 ∷ 0 ∷ 1 ∷ []) gives reads 1 [])
    ∷ ((1 ∷ 0 ∷ 1 ∷ 0 ∷ 64 ∷ []) gives reads 64 [])
    ∷ ((1 ∷ 0 ∷ 1 ∷ 0 ∷ 65 ∷ []) gives refused (Range 0))
    ∷ ((four ++ (3 ∷ 0 ∷ 2 ∷ 0 ∷ 0 ∷ 1 ∷ 9 ∷ [])) gives refused (Range 5))
    ∷ ((four ++ (3 ∷ 0 ∷ 2 ∷ 0 ∷ 1 ∷ 0 ∷ 9 ∷ [])) gives refused (Range 5))
    ∷ ((four ++ (4 ∷ 0 ∷ 2 ∷ 0 ∷ 0 ∷ 1 ∷ 9 ∷ 9 ∷ [])) gives refused (Length 5))
    ∷ ((four ++ (67 ∷ 0 ∷ 2 ∷ 0 ∷ 64 ∷ 1 ∷ (sixty_four ++ (0 ∷ [])))) gives reads 4 (record { left = sixty_four; right = 0 ∷ [] } ∷ []))
    ∷ ((four ++ (67 ∷ 0 ∷ 2 ∷ 0 ∷ 1 ∷ 64 ∷ (0 ∷ sixty_four))) gives reads 4 (record { left = 0 ∷ []; right = sixty_four } ∷ []))
    ∷ ((four ++ (68 ∷ 0 ∷ 2 ∷ 0 ∷ 65 ∷ 1 ∷ (sixty_four ++ (0 ∷ 0 ∷ [])))) gives refused (Range 5))
    ∷ ((four ++ (68 ∷ 0 ∷ 2 ∷ 0 ∷ 1 ∷ 65 ∷ (sixty_four ++ (0 ∷ 0 ∷ [])))) gives refused (Range 5))
    -- a letter that is not below A, in the left word, in the right, in a second relation
    ∷ ((four ++ (4 ∷ 0 ∷ 2 ∷ 0 ∷ 1 ∷ 1 ∷ 4 ∷ 1 ∷ [])) gives refused (UnknownLetter 5))
    ∷ ((four ++ (4 ∷ 0 ∷ 2 ∷ 0 ∷ 1 ∷ 1 ∷ 3 ∷ 255 ∷ [])) gives refused (UnknownLetter 5))
    ∷ ((four ++ (abdc_cadb ++ (4 ∷ 0 ∷ 2 ∷ 0 ∷ 1 ∷ 1 ∷ 3 ∷ 4 ∷ []))) gives refused (UnknownLetter 19))
    -- a 33rd relation: cut off is 1 and another kind 2; a length that does not fit comes after it, a fault in an earlier record before it
    ∷ ((four ++ times 33) gives refused (TooMany 261))
    ∷ ((four ++ (times 32 ++ (0 ∷ 0 ∷ 2 ∷ 0 ∷ []))) gives refused (TooMany 261))
    ∷ ((four ++ (times 32 ++ (1 ∷ 0 ∷ 2 ∷ 0 ∷ []))) gives refused (Short 261))
    ∷ ((four ++ (times 32 ++ four)) gives refused (Kind 261))
    ∷ ((four ++ (times 31 ++ (4 ∷ 0 ∷ 2 ∷ 0 ∷ 1 ∷ 1 ∷ 4 ∷ 1 ∷ times 2))) gives refused (UnknownLetter 253))
    ∷ []

-- reading each book gives what stands beside it
pub data Hold : List Example → Type 0 where
  none : Hold []
  more : {e : Example} {es : List Example} → read_book e.book ≡ e.gives → Hold es → Hold (e ∷ es)
