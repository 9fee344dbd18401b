-- What the program writes for its input (document 01, "The program"): book records, then comparison records (kind 3).
use Rattle.std.specs.Prelude.{ℕ, zero, suc, ◌+◌, ◌≤◌, cond, List, [], ◌∷◌, ◌++◌, ◌≡◌, eqb, leb, ltb, length, take, Result, Ok, Err}
use Rattle.words.specs.Words.{Word, part}
use Rattle.words.specs.Families.{words_of, family_of}
use Rattle.limits.specs.Limits.{record_prefix, input_most, comparison_kind}
use Rattle.refusals.specs.declared.Refusal.{Refusal}
use Rattle.refusals.specs.declared.Refusal.TheVariants.{Heavy}
use Rattle.refusals.specs.Refusals.{number_and_place}
use Rattle.format.specs.Book.{BookReading, field}
use Rattle.loading.specs.Loading.{load_book}
use Rattle.asked.specs.declared.Comparison.{Comparison}
use Rattle.asked.specs.declared.Comparison.TheVariants.{Same, Different}
use Rattle.asked.specs.Comparing.{comparison_of}
use Rattle.spelling.specs.Lines.{line_of, pair_line_of}
use Rattle.output.specs.declared.Request.{Request}
use Rattle.output.specs.Requests.{request_at}

-- the words of the output: refused, book, same, different
abbrev pub refused_text : List ℕ
refused_text = 114 ∷ 101 ∷ 102 ∷ 117 ∷ 115 ∷ 101 ∷ 100 ∷ []

abbrev pub book_text : List ℕ
book_text = 98 ∷ 111 ∷ 111 ∷ 107 ∷ []

abbrev pub same_text : List ℕ
same_text = 115 ∷ 97 ∷ 109 ∷ 101 ∷ []

abbrev pub different_text : List ℕ
different_text = 100 ∷ 105 ∷ 102 ∷ 102 ∷ 101 ∷ 114 ∷ 101 ∷ 110 ∷ 116 ∷ []

-- `refused N P`
unfoldable pub refused_line : Refusal → List ℕ
refused_line r = pair_line_of refused_text (number_and_place r).number (number_and_place r).place

-- a comparison's line
abbrev pub comparison_line : Result Comparison Refusal → List ℕ
comparison_line (Ok (Same n)) = line_of same_text n
comparison_line (Ok (Different n)) = line_of different_text n
comparison_line (Err r) = refused_line r

-- where the book ends: at the first record whose kind field is there and is 3, its payload there or not; else with the input.
-- A record has at least four bytes, so that a fuel of the input's length never runs out (FuelSuffices)
unfoldable pub book_end_from : ℕ → List ℕ → ℕ → ℕ
book_end_from zero input at = length input
book_end_from (suc fuel) input at =
    cond (ltb (length input) (at + record_prefix)) (length input)
    (cond (eqb (field input (at + 2)) comparison_kind) at
    (cond (ltb (length input) (at + record_prefix + field input at)) (length input)
    (book_end_from fuel input (at + record_prefix + field input at))))

abbrev pub book_end : List ℕ → ℕ
book_end input = book_end_from (length input) input 0

-- the lines from a record on, by what it asks for: a refusal of the record (1, 2 or 3) ends them, else `next` gives those behind it
abbrev pub by_request : (ℕ → List ℕ) → ℕ → List Word → (ℕ → ℕ) → List ℕ → Result Request Refusal → List ℕ
by_request next letters B family input (Err r) = refused_line r
by_request next letters B family input (Ok request) =
    comparison_line (comparison_of letters B family (part input request.first request.second) (part input request.second request.end) request.allowance)
    ++ next request.end

-- the lines of the comparison records from a position on; a fuel of the input's length never runs out (FuelSuffices)
unfoldable pub lines_from : ℕ → ℕ → List Word → (ℕ → ℕ) → List ℕ → ℕ → List ℕ
lines_from zero letters B family input at = []
lines_from (suc fuel) letters B family input at = cond (leb (length input) at) [] (by_request (lines_from fuel letters B family input) letters B family input (request_at input at))

-- a fuel of the bytes behind the position is enough: more of it changes nothing
pub record FuelSuffices : Type 0 where
  pub end : (fuel more : ℕ) (input : List ℕ) (at : ℕ) → length input ≤ at + fuel → fuel ≤ more → book_end_from more input at ≡ book_end_from fuel input at
  pub lines : (fuel more letters : ℕ) (B : List Word) (family : ℕ → ℕ) (input : List ℕ) (at : ℕ) → length input ≤ at + fuel → fuel ≤ more
      → lines_from more letters B family input at ≡ lines_from fuel letters B family input at

-- an accepted book's line, then those of the comparisons; the refusal of any other book is the whole output
abbrev pub by_loading : List ℕ → BookReading → List ℕ
by_loading input (BookReading.refused r) = refused_line r
by_loading input (BookReading.read presentation) =
    line_of book_text (length presentation.relations)
    ++ lines_from (length input) presentation.letters (words_of presentation.relations) (family_of presentation.relations) input (book_end input)

-- what is written for an input that is not too long
abbrev pub loaded_output : List ℕ → List ℕ
loaded_output input = by_loading input (load_book (take (book_end input) input))

-- 13 is tested first
unfoldable pub program_of : List ℕ → List ℕ
program_of input = cond (ltb input_most (length input)) (refused_line Heavy) (loaded_output input)
