-- The output is never longer than the size that is named for it: each line has at most 22 bytes, and each comparison record at least 12.
use Prim.Native.Nat.{ℕ, zero, suc, ◌+◌, ◌*◌, ◌<◌, ◌≤◌}
use mathlib.Core.Bool.{Bool, true, false, cond}
use mathlib.Core.List.{List, [], ◌++◌}
use mathlib.Core.Path.{◌≡◌, refl, sym, subst}
use native.Mathlib.Omega.{arith}
use borrow.Author.Tests.{ltb-true, ltb-false, leb-false}
use lib.Dec.{eqb, leb, ltb}
use lib.ListN.{length, take, length-append, length-take}
use Rattle.std.specs.Prelude.{Option, Some, None, Result, Ok, Err}
use Rattle.words.specs.Words.{Word, part}
use Rattle.words.specs.Relations.{relation_words}
use Rattle.words.specs.Families.{words_of, family_of}
use Rattle.overlap.specs.Verdict.{Verdict, judge, first_loose_side}
use Rattle.congruence.specs.Rows.{Next, round}
use Rattle.congruence.specs.Rows.Next.{end, go}
use Rattle.congruence.specs.Rounds.{CompareAnswer, answer_from, compare_under}
use Rattle.congruence.specs.Rounds.CompareAnswer.{same, different, spent}
use Rattle.limits.specs.declared.Record.{Record}
use Rattle.limits.specs.Limits.{input_most, relations_most, comparison_kind, compared_most}
use Rattle.refusals.specs.declared.Refusal.{Refusal}
use Rattle.refusals.specs.declared.Refusal.TheVariants.{Short, Kind, Length, Range, UnknownLetter, TooMany, Loose, Long, Stranger, Spent, Narrow, Heavy, NoSpace, NoSuchRelation, StaleTicket, BookWorn, NotPiece, NoPrefix}
use Rattle.refusals.specs.Refusals.{number_and_place}
use Rattle.words.specs.Letters.{first_unknown}
use Rattle.format.specs.Book.{Presentation, BookReading, field, record_at, differs, on_whole, read_book}
use Rattle.format.specs.Bytes.{AreBytes}
use Rattle.format.proofs.Readings.{read_within}
use Rattle.format.proofs.Refused.{RecordRefusal, refusal_place, BookUpto, book_upto}
use Rattle.loading.specs.Loading.{by_verdict, by_reading, load_book}
use Rattle.words.proofs.Relations.{length_words}
use Rattle.asked.specs.Given.{given_of, on_given, pair_of}
use Rattle.asked.specs.declared.Comparison.{Comparison}
use Rattle.asked.specs.declared.Comparison.TheVariants.{Same, Different}
use Rattle.asked.specs.Comparing.{by_answer, answer_of, comparison_of}
use Rattle.spelling.specs.Decimal.{digit_count}
use Rattle.spelling.specs.Lines.{numbered, line_of, pair_line_of}
use Rattle.spelling.proofs.Decimal.{count_small, count_below, length_decimal}
use Rattle.output.specs.declared.Request.{Request}
use Rattle.output.specs.Requests.{long_field, fields_of, request_at}
use Rattle.output.specs.Program.{book_text, same_text, different_text, refused_line, comparison_line, book_end_from, book_end, by_request, lines_from, by_loading, loaded_output, program_of}
use Rattle.output.specs.Size.{line_most, output_most, OutputFits}
use Rattle.output.proofs.Reading.{lies_of}

-- a number that is printed: it has at most ten digits
abbrev number_most : ℕ
number_most = 10000000000

-- numbers below a power of ten have few digits
digits_1 : (n : ℕ) → n < 10 → digit_count n ≤ 1
digits_1 n h = omega (arith, count_small n h)

digits_2 : (n : ℕ) → n < 100 → digit_count n ≤ 2
digits_2 = count_below 1 10 digits_1 (omega arith)

digits_4 : (n : ℕ) → n < 10000 → digit_count n ≤ 4
digits_4 = count_below 3 1000 (count_below 2 100 digits_2 (omega arith)) (omega arith)

digits_6 : (n : ℕ) → n < 1000000 → digit_count n ≤ 6
digits_6 = count_below 5 100000 (count_below 4 10000 digits_4 (omega arith)) (omega arith)

digits_8 : (n : ℕ) → n < 100000000 → digit_count n ≤ 8
digits_8 = count_below 7 10000000 (count_below 6 1000000 digits_6 (omega arith)) (omega arith)

digits_10 : (n : ℕ) → n < number_most → digit_count n ≤ 10
digits_10 = count_below 9 1000000000 (count_below 8 100000000 digits_8 (omega arith)) (omega arith)

-- a line of a word of at most nine letters
line_short : (text : List ℕ) (n : ℕ) → length text ≤ 9 → n < number_most → length (line_of text n) ≤ line_most
unfolding line_of numbered
line_short text n h k =
    let d = digits_10 n k in
    simp length-append (omega (arith, length_decimal n))

number_small : (r : Refusal) → (number_and_place r).number < 100
number_small (Short at) = omega arith
number_small (Kind at) = omega arith
number_small (Length at) = omega arith
number_small (Range at) = omega arith
number_small (UnknownLetter at) = omega arith
number_small (TooMany at) = omega arith
number_small (Loose i) = omega arith
number_small (Long w) = omega arith
number_small (Stranger w i) = omega arith
number_small (Spent n) = omega arith
number_small (Narrow n) = omega arith
number_small Heavy = omega arith
number_small NoSpace = omega arith
number_small NoSuchRelation = omega arith
number_small StaleTicket = omega arith
number_small BookWorn = omega arith
number_small NotPiece = omega arith
number_small NoPrefix = omega arith

-- the line of a refusal
pub refused_short : (r : Refusal) → (number_and_place r).place < number_most → length (refused_line r) ≤ line_most
unfolding refused_line pair_line_of numbered
refused_short r h =
    let d = digits_2 (number_and_place r).number (number_small r) in
    let e = digits_10 (number_and_place r).place h in
    simp length-append (omega (arith, length_decimal (number_and_place r).number, length_decimal (number_and_place r).place))

-- the rounds counted in an answer
abbrev counted : CompareAnswer → ℕ
counted (same n) = n
counted (different n) = n
counted (spent n) = n

-- they are no more than were allowed
count_allowed : (B : List Word) (family : ℕ → ℕ) (left m : ℕ) (u v p : Word) → counted (answer_from B family left m u v p) ≤ m + left
unfolding answer_from
count_allowed B family zero m u v p = step (round B family u v p) refl
  where
    step : (x : Next) → round B family u v p ≡ x → counted (answer_from B family zero m u v p) ≤ m + zero
    step (end true) e = rw e (omega arith)
    step (end false) e = rw e (omega arith)
    step (go u' v' p') e = rw e (omega arith)
count_allowed B family (suc left) m u v p = step (count_allowed B family left (m + 1)) (round B family u v p) refl
  where
    step : ((u v p : Word) → counted (answer_from B family left (m + 1) u v p) ≤ m + 1 + left) → (x : Next) → round B family u v p ≡ x
        → counted (answer_from B family (suc left) m u v p) ≤ m + suc left
    step f (end true) e = rw e (omega arith)
    step f (end false) e = rw e (omega arith)
    step f (go u' v' p') e = rw e (omega (arith, f u' v' p'))

-- a comparison whose numbers are small
abbrev Small : Result Comparison Refusal → Type 0
Small (Ok (Same n)) = n < number_most
Small (Ok (Different n)) = n < number_most
Small (Err r) = (number_and_place r).place < number_most

small_answer : (a : CompareAnswer) → counted a < number_most → Small (by_answer a)
small_answer (same n) h = h
small_answer (different n) h = h
small_answer (spent n) h = h

-- the refusal of a given word has a small place
abbrev SmallGiven : Result (Unit {0}) Refusal → Type 0
SmallGiven (Ok tt) = Unit {0}
SmallGiven (Err r) = (number_and_place r).place < number_most

small_word : (number letters : ℕ) (w : Word) → number ≤ 2 → SmallGiven (given_of number compared_most letters w)
unfolding given_of
small_word number letters w h = first (ltb compared_most (length w)) refl
  where
    second : length w ≤ compared_most → (b : Bool) → ltb (first_unknown letters w) (length w) ≡ b
        → SmallGiven (cond b (Err (Stranger number (first_unknown letters w))) (Ok tt))
    second k true e = omega (arith, ltb-true (first_unknown letters w) (length w) e)
    second k false e = tt

    first : (b : Bool) → ltb compared_most (length w) ≡ b
        → SmallGiven (cond b (Err (Long number)) (cond (ltb (first_unknown letters w) (length w)) (Err (Stranger number (first_unknown letters w))) (Ok tt)))
    first true e = omega arith
    first false e = second (ltb-false compared_most (length w) e) (ltb (first_unknown letters w) (length w)) refl

small_then : (g h : Result (Unit {0}) Refusal) → SmallGiven g → SmallGiven h → SmallGiven (on_given g Err h)
small_then (Ok _) h a b = b
small_then (Err r) h a b = a

small_given : (g : Result (Unit {0}) Refusal) (c : Result Comparison Refusal) → SmallGiven g → Small c → Small (on_given g Err c)
small_given (Ok _) c a b = b
small_given (Err r) c a b = a

small_comparison : (letters : ℕ) (B : List Word) (family : ℕ → ℕ) (u v : Word) (allowance : ℕ) → allowance < number_most → Small (comparison_of letters B family u v allowance)
unfolding answer_of comparison_of pair_of
small_comparison letters B family u v allowance h =
    let n = count_allowed B family allowance 0 u v [] in
    let a = small_word 0 letters u (omega arith) in
    let b = small_word 1 letters v (omega arith) in
    let c = small_answer (compare_under B family allowance u v) (omega arith) in
    small_given (pair_of letters u v) (by_answer (compare_under B family allowance u v)) (small_then (given_of 0 compared_most letters u) (given_of 1 compared_most letters v) a b) c

comparison_short : (c : Result Comparison Refusal) → Small c → length (comparison_line c) ≤ line_most
comparison_short (Ok (Same n)) h = line_short same_text n (omega arith) h
comparison_short (Ok (Different n)) h = line_short different_text n (omega arith) h
comparison_short (Err r) h = refused_short r h

-- a four-byte field of bytes
field_small : (input : List ℕ) (at : ℕ) → AreBytes input → long_field input at < number_most
field_small input at b = omega (arith, b at, b (at + 1), b (at + 2), b (at + 2 + 1))

-- a text of few lines for the bytes from a position on
record Few (n at : ℕ) (s : List ℕ) : Type 0 where
  pub count : ℕ
  pub lines : length s ≤ line_most * count
  pub records : at + 12 * count ≤ n + 11

few_none : (n at : ℕ) → at ≤ n + 11 → Few n at []
few_none n at h = record { count = 0; lines = omega arith; records = omega arith }

few_one : (n at : ℕ) (s : List ℕ) → at < n → length s ≤ line_most → Few n at s
few_one n at s h k = record { count = 1; lines = omega arith; records = omega arith }

few_more : (n at to : ℕ) (s t : List ℕ) → at + 12 ≤ to → length s ≤ line_most → Few n to t → Few n at (s ++ t)
few_more n at to s t h k f =
    let l = length-append s t in
    record { count = suc f.count; lines = omega (arith, f.lines); records = omega (arith, f.records) }

-- what a record of the kind 3 part asks for, or its refusal
data PlacedAt (place : ℕ) : Result Request Refusal → Type 0 where
  refused_there : {r : Refusal} → RecordRefusal place r → PlacedAt place (Err r)
  asked : {request : Request} → PlacedAt place (Ok request)

request_cond : (place : ℕ) (b : Bool) (x y : Result Request Refusal) → PlacedAt place x → PlacedAt place y → PlacedAt place (cond b x y)
request_cond place true x y h k = h
request_cond place false x y h k = k

ruleset requests = (request_cond, PlacedAt.refused_there, PlacedAt.asked, RecordRefusal.short_there, RecordRefusal.kind_there, RecordRefusal.length_there)

request_whole : (input : List ℕ) (at : ℕ) (o : Option Record)
    → PlacedAt at (on_whole o (Err (Short at)) (λ kind from to. cond (differs kind comparison_kind) (Err (Kind at)) (fields_of input at from to)))
unfolding fields_of
request_whole input at None = search requests
request_whole input at (Some there) = search requests depth 8

request_place : (input : List ℕ) (at : ℕ) (r : Refusal) → request_at input at ≡ Err r → (number_and_place r).place ≡ at
unfolding request_at
request_place input at r e = placed (subst (PlacedAt at) e (request_whole input at (record_at input at)))
  where
    placed : PlacedAt at (Err r) → (number_and_place r).place ≡ at
    placed (refused_there h) = refusal_place at r h

module _ (letters : ℕ) (B : List Word) (family : ℕ → ℕ) (input : List ℕ) (bytes : AreBytes input) (small : length input ≤ input_most) where
  -- the lines from a record on
  few_request : (next : ℕ → List ℕ) (at : ℕ) → at < length input → ((to : ℕ) → to ≤ length input → Few (length input) to (next to)) → (r : Result Request Refusal) → request_at input at ≡ r
      → Few (length input) at (by_request next letters B family input r)
  few_request next at h f (Err x) e =
      let p = request_place input at x e in
      few_one _ at _ h (refused_short x (omega arith))
  few_request next at h f (Ok request) e =
      let w = lies_of input at (Ok request) (sym e) request refl in
      let k = field_small input (at + 4) bytes in
      let u = part input request.first request.second in
      let v = part input request.second request.end in
      let c = comparison_of letters B family u v request.allowance in
      let l = small_comparison letters B family u v request.allowance (omega (arith, w.allowed)) in
      few_more _ at request.end (comparison_line c) (next request.end) (omega (arith, w.behind)) (comparison_short c l) (f request.end w.inside)

  few_lines : (most at : ℕ) → at ≤ length input → Few (length input) at (lines_from most letters B family input at)
  unfolding lines_from
  few_lines zero at h = few_none _ at (omega arith)
  few_lines (suc most) at h = go (few_lines most) (leb (length input) at) refl
    where
      go : ((to : ℕ) → to ≤ length input → Few (length input) to (lines_from most letters B family input to)) → (b : Bool) → leb (length input) at ≡ b
          → Few (length input) at (cond b [] (by_request (lines_from most letters B family input) letters B family input (request_at input at)))
      go f true e = few_none _ at (omega arith)
      go f false e = few_request (lines_from most letters B family input) at (leb-false (length input) at e) f (request_at input at) refl

-- a book's loading: few relations, or a refusal with a small place
abbrev SmallLoading : BookReading → Type 0
SmallLoading (BookReading.refused r) = (number_and_place r).place < number_most
SmallLoading (BookReading.read p) = length p.relations ≤ relations_most

small_judged : (p : Presentation) → length p.relations ≤ relations_most → SmallLoading (by_verdict p (judge (relation_words p.relations)))
unfolding judge
small_judged p h = go (ltb (first_loose_side sides) (length sides)) refl
  where
    sides : List Word
    sides = relation_words p.relations

    go : (b : Bool) → ltb (first_loose_side sides) (length sides) ≡ b → SmallLoading (by_verdict p (cond b (Verdict.loose (first_loose_side sides)) Verdict.accepted))
    go true e = omega (arith, ltb-true (first_loose_side sides) (length sides) e, length_words p.relations)
    go false e = h

small_loading : (book : List ℕ) → length book ≤ input_most → SmallLoading (load_book book)
unfolding load_book
small_loading book h = step (read_book book) refl (book_upto book)
  where
    step : (o : BookReading) → read_book book ≡ o → BookUpto (length book) o → SmallLoading (by_reading o)
    step (BookReading.refused r) e (BookUpto.refused_at {place} k there) = omega (arith, refusal_place place r there)
    step (BookReading.read p) e k = small_judged p (read_within book p e).few_relations

pub end_within : (most : ℕ) (input : List ℕ) (at : ℕ) → at ≤ length input → book_end_from most input at ≤ length input
unfolding book_end_from
end_within zero input at h = omega arith
end_within (suc most) input at h = first (end_within most input (at + 4 + field input at)) (ltb (length input) (at + 4)) refl
  where
    next : ℕ
    next = at + 4 + field input at

    third : (next ≤ length input → book_end_from most input next ≤ length input) → (b : Bool) → ltb (length input) next ≡ b
        → cond b (length input) (book_end_from most input next) ≤ length input
    third f true e = omega arith
    third f false e = f (ltb-false (length input) next e)

    second : (next ≤ length input → book_end_from most input next ≤ length input) → (b : Bool)
        → cond b at (cond (ltb (length input) next) (length input) (book_end_from most input next)) ≤ length input
    second f true = h
    second f false = third f (ltb (length input) next) refl

    first : (next ≤ length input → book_end_from most input next ≤ length input) → (b : Bool) → ltb (length input) (at + 4) ≡ b
        → cond b (length input) (cond (eqb (field input (at + 2)) comparison_kind) at (cond (ltb (length input) next) (length input) (book_end_from most input next))) ≤ length input
    first f true e = omega arith
    first f false e = second f (eqb (field input (at + 2)) comparison_kind)

-- the output of an input that is not too long
loading_fits : (input : List ℕ) (o : BookReading) → AreBytes input → length input ≤ input_most → SmallLoading o → length (by_loading input o) ≤ output_most
loading_fits input (BookReading.refused r) b h k = let l = refused_short r k in omega arith
loading_fits input (BookReading.read p) b h k =
    let B = words_of p.relations in
    let f = few_lines p.letters B (family_of p.relations) input b h (length input) (book_end input) (end_within (length input) input 0 (omega arith)) in
    let l = line_short book_text (length p.relations) (omega arith) (omega arith) in
    let a = length-append (line_of book_text (length p.relations)) (lines_from (length input) p.letters B (family_of p.relations) input (book_end input)) in
    omega (arith, f.lines, f.records)

pub output_fits : OutputFits
unfolding program_of
output_fits input b = step (ltb input_most (length input)) refl
  where
    step : (t : Bool) → ltb input_most (length input) ≡ t → length (cond t (refused_line Heavy) (loaded_output input)) ≤ output_most
    step true e = let l = refused_short Heavy (omega arith) in omega arith
    step false e =
        let h = ltb-false input_most (length input) e in
        let l = length-take (book_end input) input in
        loading_fits input (load_book (take (book_end input) input)) b h (small_loading (take (book_end input) input) (omega arith))
