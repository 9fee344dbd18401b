-- What each entry answers and leaves in its lent buffers, for every input whatever. Refusals come in the order of document 01, "Refusals by number".
use Rattle.std.specs.Prelude.{ℕ, ◌*◌, ◌-◌, Bool, cond, ◌||◌, List, ◌++◌, ltb, length, take, drop, Result, Ok, Err}
use Rattle.words.specs.Words.{Word}
use Rattle.words.specs.Writing.{over}
use Rattle.words.specs.Relations.{relation_words}
use Rattle.words.specs.Families.{words_of, family_of}
use Rattle.congruence.specs.Rows.{Next, round}
use Rattle.congruence.specs.Rows.Next.{end, go}
use Rattle.refusals.specs.declared.Refusal.{Refusal}
use Rattle.refusals.specs.declared.Refusal.TheVariants.{Narrow, NoSpace, NoPrefix}
use Rattle.limits.specs.Limits.{next_room, mark_most, sheet_columns}
use Rattle.format.specs.Book.{Presentation, BookReading}
use Rattle.loading.specs.Loading.{load_book}
use Rattle.asked.specs.Given.{on_given, one_of, triple_of}
use Rattle.loading.specs.Sheet.{cut_sheet}
use Rattle.asked.specs.Comparing.{comparison_of}
use Rattle.least.specs.Writing.{Found, found, absent}
use Rattle.asked.specs.Least.{least_for}
use Rattle.output.specs.Program.{program_of}
use Rattle.output.specs.Size.{output_most}
use Rattle.answers.specs.Answers.{Answer, accepted, ended, next, wrote, refusal, of_comparison}

-- 1 to 6 and 8: a refusal of the book goes straight back
abbrev pub on_loaded : {A : Type 0} → BookReading → (Refusal → A) → (Presentation → A) → A
on_loaded (BookReading.refused r) stop proceed = stop r
on_loaded (BookReading.read presentation) stop proceed = proceed presentation

-- the check of a book
unfoldable pub check_of : List ℕ → Answer
check_of book = on_loaded (load_book book) refusal (λ presentation. accepted (length presentation.relations))

-- the outcome of a sheet: an answer, and the lent buffer after it
pub data SheetOutcome : Type 0 where
  after : Answer → List ℕ → SheetOutcome

-- the cut sheet: a row of bytes for each side at the start of the lent buffer; 12 where it is too small
unfoldable pub sheet_of : List ℕ → List ℕ → SheetOutcome
sheet_of book sheet =
    on_loaded (load_book book) (λ r. after (refusal r) sheet) (λ presentation.
    cond (ltb (length sheet) (sheet_columns * (2 * length presentation.relations))) (after (refusal (Narrow 0)) sheet)
    (after (accepted (length presentation.relations)) (over (cut_sheet (relation_words presentation.relations)) sheet)))

-- the outcome of a round: an answer, and the three lent buffers after it
pub data RoundOutcome : Type 0 where
  after : Answer → List ℕ → List ℕ → List ℕ → RoundOutcome

-- 12 of the three buffers, by their lengths, lowest first
unfoldable pub room_of : ℕ → ℕ → ℕ → Result (Unit {0}) Refusal
room_of room_u room_v room_p =
    cond (ltb room_u next_room) (Err (Narrow 0))
    (cond (ltb room_v next_room) (Err (Narrow 1))
    (cond (ltb room_p mark_most) (Err (Narrow 2)) (Ok tt)))

-- what is given to a round: 9 and 10 of u, v and p in turn, then 12
unfoldable pub asked_of : ℕ → Word → Word → Word → ℕ → ℕ → ℕ → Result (Unit {0}) Refusal
asked_of letters u v p room_u room_v room_p = on_given (triple_of letters u v p) Err (room_of room_u room_v room_p)

-- an end writes nothing; else the next u, v and p stand at the starts of the buffers
abbrev pub writing : Next → List ℕ → List ℕ → List ℕ → RoundOutcome
writing (end b) next_u next_v next_p = RoundOutcome.after (ended b) next_u next_v next_p
writing (go u v p) next_u next_v next_p = RoundOutcome.after (next (length u) (length v) (length p)) (over u next_u) (over v next_v) (over p next_p)

-- the round under relation words B in families, of so many letters
unfoldable pub loaded_round : ℕ → List Word → (ℕ → ℕ) → Word → Word → Word → List ℕ → List ℕ → List ℕ → RoundOutcome
loaded_round letters B family u v p next_u next_v next_p =
    on_given (asked_of letters u v p (length next_u) (length next_v) (length next_p)) (λ r. RoundOutcome.after (refusal r) next_u next_v next_p)
    (writing (round B family u v p) next_u next_v next_p)

-- the single round
unfoldable pub round_of : List ℕ → Word → Word → Word → List ℕ → List ℕ → List ℕ → RoundOutcome
round_of book u v p next_u next_v next_p =
    on_loaded (load_book book) (λ r. RoundOutcome.after (refusal r) next_u next_v next_p) (λ presentation.
    loaded_round presentation.letters (words_of presentation.relations) (family_of presentation.relations) u v p next_u next_v next_p)

-- the comparison
unfoldable pub compare_of : List ℕ → Word → Word → ℕ → Answer
compare_of book u v allowance =
    on_loaded (load_book book) refusal (λ presentation. of_comparison (comparison_of presentation.letters (words_of presentation.relations) (family_of presentation.relations) u v allowance))

-- the outcome of a least word: an answer, and the lent buffer after it
pub data WordOutcome : Type 0 where
  after : Answer → List ℕ → WordOutcome

-- 14: the offset lies past the end of a buffer, or a word is longer than what follows the offset; by the lengths of the buffer and of the word
unfoldable pub lacks_space : ℕ → ℕ → ℕ → Bool
lacks_space room offset long = ltb room offset || ltb (room - offset) long

-- a word in a buffer from an offset on; the bytes before it and behind it are kept
unfoldable pub placed_at : ℕ → Word → List ℕ → WordOutcome
placed_at offset w buffer =
    cond (lacks_space (length buffer) offset (length w)) (WordOutcome.after (refusal NoSpace) buffer)
    (WordOutcome.after (wrote (length w)) (take offset buffer ++ over w (drop offset buffer)))

-- the same of what the rounds find; 19 where there is no such word
abbrev pub found_at : ℕ → Found → List ℕ → WordOutcome
found_at offset (found w) buffer = placed_at offset w buffer
found_at offset absent buffer = WordOutcome.after (refusal NoPrefix) buffer

-- the least word under relation words B in families, of so many letters
unfoldable pub loaded_least : ℕ → List Word → (ℕ → ℕ) → Word → List ℕ → ℕ → WordOutcome
loaded_least letters B family u buffer offset = on_given (one_of letters u) (λ r. WordOutcome.after (refusal r) buffer) (placed_at offset (least_for B family u) buffer)

-- the least word
unfoldable pub least_of : List ℕ → Word → List ℕ → ℕ → WordOutcome
least_of book u buffer offset =
    on_loaded (load_book book) (λ r. WordOutcome.after (refusal r) buffer) (λ presentation.
    loaded_least presentation.letters (words_of presentation.relations) (family_of presentation.relations) u buffer offset)

-- the outcome of the program: an answer, and the lent buffer after it
pub data OutputOutcome : Type 0 where
  after : Answer → List ℕ → OutputOutcome

-- the program: 12 where the buffer has no room for the longest output of all; else its output at the start of the buffer
unfoldable pub output_of : List ℕ → List ℕ → OutputOutcome
output_of input out =
    cond (ltb (length out) output_most) (OutputOutcome.after (refusal (Narrow 0)) out)
    (OutputOutcome.after (wrote (length (program_of input))) (over (program_of input) out))
