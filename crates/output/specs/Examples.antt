-- Inputs and what the program writes for them, worked out from document 01 ("The program").
use Rattle.std.specs.Prelude.{ℕ, ◌<◌, List, [], ◌∷◌, ◌++◌, ◌≡◌, length, take}
use Rattle.limits.specs.Limits.{input_most}
use Rattle.format.specs.Examples.{four, abdc_cadb}
use Rattle.output.specs.Program.{program_of}

pub record Example : Type 0 where
  pub input : List ℕ
  pub output : List ℕ

infixl 2 ◌gives◌
abbrev pub ◌gives◌ : List ℕ → List ℕ → Example
input gives output = record { input = input; output = output }

-- the comparison of abdc and cadb, with an allowance
abbrev pub comparison : ℕ → List ℕ
comparison allowance = 16 ∷ 0 ∷ 3 ∷ 0 ∷ allowance ∷ 0 ∷ 0 ∷ 0 ∷ 4 ∷ 0 ∷ 4 ∷ 0 ∷ 0 ∷ 1 ∷ 3 ∷ 2 ∷ 2 ∷ 0 ∷ 3 ∷ 1 ∷ []

-- document 01's example: the head of four letters, the relation abdc = cadb, the comparison of abdc and cadb with an allowance of 100
abbrev pub example : List ℕ
example = four ++ (abdc_cadb ++ comparison 100)

-- `book 0`
abbrev pub book0 : List ℕ
book0 = 98 ∷ 111 ∷ 111 ∷ 107 ∷ 32 ∷ 48 ∷ 10 ∷ []

-- `book 1`
abbrev pub book1 : List ℕ
book1 = 98 ∷ 111 ∷ 111 ∷ 107 ∷ 32 ∷ 49 ∷ 10 ∷ []

-- `same 2`
abbrev pub same2 : List ℕ
same2 = 115 ∷ 97 ∷ 109 ∷ 101 ∷ 32 ∷ 50 ∷ 10 ∷ []

-- `same 0`
abbrev pub same0 : List ℕ
same0 = 115 ∷ 97 ∷ 109 ∷ 101 ∷ 32 ∷ 48 ∷ 10 ∷ []

-- `different 0`
abbrev pub different0 : List ℕ
different0 = 100 ∷ 105 ∷ 102 ∷ 102 ∷ 101 ∷ 114 ∷ 101 ∷ 110 ∷ 116 ∷ 32 ∷ 48 ∷ 10 ∷ []

-- `refused ` and what follows, with a newline
abbrev pub refused : List ℕ → List ℕ
refused rest = (114 ∷ 101 ∷ 102 ∷ 117 ∷ 115 ∷ 101 ∷ 100 ∷ 32 ∷ []) ++ (rest ++ (10 ∷ []))

unfoldable pub examples : List Example
examples =
    -- document 01's own
    (example gives (book1 ++ same2))
    -- the empty input, one to three stray bytes, and a record of kind 3 first: the book is empty or cut off
    ∷ ([] gives refused (49 ∷ 32 ∷ 48 ∷ []))
    ∷ ((1 ∷ []) gives refused (49 ∷ 32 ∷ 48 ∷ []))
    ∷ ((1 ∷ 0 ∷ []) gives refused (49 ∷ 32 ∷ 48 ∷ []))
    ∷ ((1 ∷ 0 ∷ 3 ∷ []) gives refused (49 ∷ 32 ∷ 48 ∷ []))
    ∷ (comparison 100 gives refused (49 ∷ 32 ∷ 48 ∷ []))
    ∷ (take 4 (comparison 100) gives refused (49 ∷ 32 ∷ 48 ∷ []))
    -- a head alone, with stray bytes behind it, and with empty words compared
    ∷ (four gives book0)
    ∷ ((four ++ (16 ∷ 0 ∷ 3 ∷ [])) gives refused (49 ∷ 32 ∷ 53 ∷ []))
    ∷ ((four ++ (8 ∷ 0 ∷ 3 ∷ 0 ∷ 0 ∷ 0 ∷ 0 ∷ 0 ∷ 0 ∷ 0 ∷ 0 ∷ 0 ∷ [])) gives (book0 ++ same0))
    ∷ ((four ++ (10 ∷ 0 ∷ 3 ∷ 0 ∷ 0 ∷ 0 ∷ 0 ∷ 0 ∷ 1 ∷ 0 ∷ 1 ∷ 0 ∷ 0 ∷ 1 ∷ [])) gives (book0 ++ different0))
    -- a kind field that is there ends the book, its payload cut off or not
    ∷ ((four ++ take 4 (comparison 100)) gives (book0 ++ refused (49 ∷ 32 ∷ 53 ∷ [])))
    ∷ ((four ++ take 5 (comparison 100)) gives (book0 ++ refused (49 ∷ 32 ∷ 53 ∷ [])))
    -- a refused book is the whole output: a second head, and a = aa (loose)
    ∷ ((four ++ (four ++ comparison 100)) gives refused (50 ∷ 32 ∷ 53 ∷ []))
    ∷ ((four ++ ((5 ∷ 0 ∷ 2 ∷ 0 ∷ 1 ∷ 2 ∷ 0 ∷ 0 ∷ 0 ∷ []) ++ comparison 100)) gives refused (56 ∷ 32 ∷ 48 ∷ []))
    -- the lines before a refused record of the kind 3 part stay, and nothing follows it: stray bytes, a cut off record, another kind, a wrong length
    ∷ ((example ++ (0 ∷ [])) gives (book1 ++ (same2 ++ refused (49 ∷ 32 ∷ 51 ∷ 57 ∷ []))))
    ∷ ((example ++ take 19 (comparison 100)) gives (book1 ++ (same2 ++ refused (49 ∷ 32 ∷ 51 ∷ 57 ∷ []))))
    ∷ ((example ++ (abdc_cadb ++ comparison 100)) gives (book1 ++ (same2 ++ refused (50 ∷ 32 ∷ 51 ∷ 57 ∷ []))))
    ∷ ((example ++ ((0 ∷ 0 ∷ 3 ∷ 0 ∷ []) ++ comparison 100)) gives (book1 ++ (same2 ++ refused (51 ∷ 32 ∷ 51 ∷ 57 ∷ []))))
    ∷ ((example ++ ((10 ∷ 0 ∷ 3 ∷ 0 ∷ 0 ∷ 0 ∷ 0 ∷ 0 ∷ 1 ∷ 0 ∷ 0 ∷ 0 ∷ 0 ∷ 0 ∷ []) ++ comparison 100)) gives (book1 ++ (same2 ++ refused (51 ∷ 32 ∷ 51 ∷ 57 ∷ []))))
    -- 9, 10 and 11 go on to the next: an allowance that is too small, and a letter that the head does not have
    ∷ ((four ++ (abdc_cadb ++ (comparison 1 ++ comparison 2))) gives (book1 ++ (refused (49 ∷ 49 ∷ 32 ∷ 49 ∷ []) ++ same2)))
    ∷ ((four ++ (abdc_cadb ++ ((10 ∷ 0 ∷ 3 ∷ 0 ∷ 0 ∷ 0 ∷ 0 ∷ 0 ∷ 1 ∷ 0 ∷ 1 ∷ 0 ∷ 0 ∷ 4 ∷ []) ++ comparison 2))) gives (book1 ++ (refused (49 ∷ 48 ∷ 32 ∷ 53 ∷ 48 ∷ 48 ∷ 48 ∷ []) ++ same2)))
    ∷ []

-- the program writes for each input what stands beside it
pub data Hold : List Example → Type 0 where
  none : Hold []
  more : {e : Example} {es : List Example} → program_of e.input ≡ e.output → Hold es → Hold (e ∷ es)

-- 13 is tested first: whatever an input over 60,000 bytes holds, the output is `refused 13 60000`
abbrev pub HeavyFirst : Type 0
HeavyFirst = (input : List ℕ) → input_most < length input → program_of input ≡ refused (49 ∷ 51 ∷ 32 ∷ 54 ∷ 48 ∷ 48 ∷ 48 ∷ 48 ∷ [])
