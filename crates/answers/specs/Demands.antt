-- What is owed of the entries, said of their answers in the words of the papers: of the check and of the cut sheet (demand 2), of the comparison (demand 3) and of
-- the least word (document 01, "The least equal run").
-- Demand 1 (safety, refusals, lent buffers) has no record here: every function's check and the equalities with specs/Entries.antt are its statement; that a refusal
-- keeps every lent byte is also said in words, in specs/Keeping.antt.
use Rattle.std.specs.Prelude.{ℕ, ◌+◌, ◌*◌, ◌<◌, ◌≤◌, Bool, List, [], ◌++◌, ◌↔◌, ◌⊎◌, ◌≡◌, length, get_or, take, drop, Ok}
use Rattle.words.specs.Words.{Word}
use Rattle.words.specs.Relations.{Relation, relation_words}
use Rattle.words.specs.Families.{distinct_words, word_of_side, words_of, family_of}
use Rattle.overlap.specs.Pieces.{word, IsPiece, C4}
use Rattle.overlap.specs.Cuts.{longest_suffix_piece}
use Rattle.overlap.specs.Counts.{PieceCount, pieces, number, FewestPieces}
use Rattle.overlap.specs.Maximal.{MaximalPiecePrefix, MaximalPieceSuffix}
use Rattle.overlap.specs.Verdict.{FewPieces, Lowest}
use Rattle.congruence.specs.Congruence.{Congruent}
use Rattle.congruence.specs.Rounds.{Rounds}
use Rattle.least.specs.Order.{house_rank}
use Rattle.least.specs.Least.{LeastWord}
use Rattle.limits.specs.Limits.{side_most, least_most, sheet_x, sheet_y, sheet_z, sheet_pieces, sheet_columns}
use Rattle.format.specs.Book.{Presentation, BookReading, read_book}
use Rattle.loading.specs.Loading.{load_book}
use Rattle.asked.specs.Given.{one_of, pair_of}
use Rattle.answers.specs.Answers.{Answer, accepted, same, different, wrote, refused}
use Rattle.answers.specs.Entries.{check_of, SheetOutcome, sheet_of, compare_of, WordOutcome, least_of}

-- demand 2, of a book that is well formed and within the limits: it is accepted exactly when its distinct words meet C(4); else it is refused by 8 at the lowest
-- side whose word is a product of three or fewer pieces
pub record Accepts (relations : List Relation) (answer : Answer) : Type 0 where
  pub accepts : (answer ≡ accepted (length relations)) ↔ C4 (words_of relations)
  pub loose : (i : ℕ) → (answer ≡ refused 8 i) ↔ Lowest (length (relation_words relations)) (λ s. FewPieces 4 (words_of relations) (word_of_side (relation_words relations) s)) i
  -- there is no other answer
  pub only : (answer ≡ accepted (length relations)) ⊎ ((i : ℕ) × (answer ≡ refused 8 i))

abbrev pub Acceptance : Type 0
Acceptance = (book : List ℕ) (presentation : Presentation) → read_book book ≡ BookReading.read presentation → Accepts presentation.relations (check_of book)

-- demand 2, of side s and its row of bytes on a sheet: the lengths of the maximal piece prefix X, the middle word Y and the maximal piece suffix Z of its word,
-- where pieces are those of the distinct words, and Y is not empty and no piece; and its number of pieces, the smallest n such that it is a product of n pieces, or
-- 255 where it is a product of no number of them. It is at least four and, unless it is 255, at most 64, so that 255 stands for none alone
pub record Reports (sides : List Word) (sheet : List ℕ) (s : ℕ) : Type 0 where
  pub x : Word
  pub y : Word
  pub z : Word
  pub whole : x ++ (y ++ z) ≡ word sides s
  pub first : MaximalPiecePrefix (distinct_words sides) (word_of_side sides s) x
  pub last : MaximalPieceSuffix (distinct_words sides) (word_of_side sides s) z
  pub some : 0 < length y
  pub middle : ¬ IsPiece (distinct_words sides) y
  pub count : PieceCount
  pub fewest : FewestPieces (distinct_words sides) (word sides s) count
  pub small : (n : ℕ) → count ≡ pieces n → n ≤ side_most
  pub enough : 4 ≤ number count
  pub x_byte : get_or sheet (sheet_columns * s + sheet_x) 0 ≡ length x
  pub y_byte : get_or sheet (sheet_columns * s + sheet_y) 0 ≡ length y
  pub z_byte : get_or sheet (sheet_columns * s + sheet_z) 0 ≡ length z
  pub pieces_byte : get_or sheet (sheet_columns * s + sheet_pieces) 0 ≡ number count

-- of the outcome for a lent buffer: the rows of all sides are at its start, and its length and the bytes behind them are the old ones
pub record Sheeted (relations : List Relation) (old : List ℕ) (outcome : SheetOutcome) : Type 0 where
  pub sheet : List ℕ
  pub is : outcome ≡ SheetOutcome.after (accepted (length relations)) sheet
  pub reports : (i : ℕ) → i < length (relation_words relations) → Reports (relation_words relations) sheet i
  pub kept : length sheet ≡ length old
  pub behind : (j : ℕ) → sheet_columns * length (relation_words relations) ≤ j → get_or sheet j 0 ≡ get_or old j 0

-- of every accepted book: the sheet is in the buffer exactly when that has a row of bytes for each side, else 12 and the old buffer
pub record CutsReported : Type 0 where
  pub roomy : (book old : List ℕ) (presentation : Presentation) → load_book book ≡ BookReading.read presentation
      → sheet_columns * length (relation_words presentation.relations) ≤ length old → Sheeted presentation.relations old (sheet_of book old)
  pub narrow : (book old : List ℕ) (presentation : Presentation) → load_book book ≡ BookReading.read presentation
      → length old < sheet_columns * length (relation_words presentation.relations) → sheet_of book old ≡ SheetOutcome.after (refused 12 0) old

-- demand 3, of two words under relations, an allowance and an answer
pub record Decides (relations : List Relation) (u v : Word) (allowance : ℕ) (answer : Answer) : Type 0 where
  -- the rounds of the two words: so many 'go on's and drops that the rows make up to their end, with no allowance to stop them
  pub rounds : ℕ
  pub result : Bool
  pub made : Rounds (words_of relations) (family_of relations) u v [] rounds result
  -- 'spent' exactly when the allowance is below the rounds
  pub spends : (answer ≡ refused 11 allowance) ↔ (allowance < rounds)
  -- else 'same' exactly when a chain joins the words, 'different' exactly when none does, with that count of rounds
  pub joins : (answer ≡ same rounds) ↔ ((rounds ≤ allowance) × Congruent (relation_words relations) u v)
  pub parts : (answer ≡ different rounds) ↔ ((rounds ≤ allowance) × (¬ Congruent (relation_words relations) u v))
  -- there is no other answer
  pub only : (answer ≡ refused 11 allowance) ⊎ ((answer ≡ same rounds) ⊎ (answer ≡ different rounds))
  -- the rounds are at most (k + 2) times the first word's length; in fact at most (k + 1) times the shorter one's
  pub bound : rounds ≤ (longest_suffix_piece (words_of relations) + 2) * length u
  pub closer : (rounds ≤ (longest_suffix_piece (words_of relations) + 1) * length u) × (rounds ≤ (longest_suffix_piece (words_of relations) + 1) * length v)

-- what the comparison promises of its answer: it is the definition's; and of an accepted book and two words that are fine, it decides
pub record Compared (book : List ℕ) (u v : Word) (allowance : ℕ) (answer : Answer) : Type 0 where
  pub is : answer ≡ compare_of book u v allowance
  pub decides : (presentation : Presentation) → load_book book ≡ BookReading.read presentation → pair_of presentation.letters u v ≡ Ok tt
      → Decides presentation.relations u v allowance answer

-- of a word w that is written into a lent buffer from an offset on: the answer is its length, the bytes from the offset on are w, and the buffer's length and
-- all other bytes are the old ones
pub record Placed (w : Word) (old : List ℕ) (offset : ℕ) (outcome : WordOutcome) : Type 0 where
  pub buffer : List ℕ
  pub is : outcome ≡ WordOutcome.after (wrote (length w)) buffer
  pub there : (j : ℕ) → j < length w → get_or buffer (offset + j) 0 ≡ get_or w j 0
  pub kept : length buffer ≡ length old
  pub before : (j : ℕ) → j < offset → get_or buffer j 0 ≡ get_or old j 0
  pub behind : (j : ℕ) → offset + length w ≤ j → get_or buffer j 0 ≡ get_or old j 0

-- the least equal run, of a word u under relation words B: the least word that is congruent to u, of which there is one and only one, is in the buffer from the offset on, exactly when
-- there is room for it; else 14 and the old buffer
pub record WritesLeast (B : List Word) (u : Word) (old : List ℕ) (offset : ℕ) (outcome : WordOutcome) : Type 0 where
  pub word : Word
  pub least : LeastWord B house_rank u word
  pub only : (w : Word) → LeastWord B house_rank u w → w ≡ word
  pub roomy : offset + length word ≤ length old → Placed word old offset outcome
  pub narrow : length old < offset + length word → outcome ≡ WordOutcome.after (refused 14 0) old
  pub short : length word ≤ least_most

-- what the least word promises of its outcome: it is the definition's; and of an accepted book and a word that is fine, the least word is written
pub record LeastAnswered (book : List ℕ) (u : Word) (old : List ℕ) (offset : ℕ) (outcome : WordOutcome) : Type 0 where
  pub is : outcome ≡ least_of book u old offset
  pub writes : (presentation : Presentation) → load_book book ≡ BookReading.read presentation → one_of presentation.letters u ≡ Ok tt
      → WritesLeast (relation_words presentation.relations) u old offset outcome

-- of every accepted book and every word that is fine
abbrev pub LeastWritten : Type 0
LeastWritten = (book : List ℕ) (u : Word) (old : List ℕ) (offset : ℕ) (presentation : Presentation) → load_book book ≡ BookReading.read presentation
    → one_of presentation.letters u ≡ Ok tt → WritesLeast (relation_words presentation.relations) u old offset (least_of book u old offset)

-- the bytes that a call which answers with a length has written: so many, from its offset on
abbrev pub written_bytes : ℕ → ℕ → List ℕ → Word
written_bytes n offset buffer = take n (drop offset buffer)

-- of an accepted book and two words that are fine, of which each least word found room: a comparison that is allowed the rounds that it can need says 'same'
-- exactly when what was written for the one word is what was written for the other
abbrev pub LeastDecides : Type 0
LeastDecides = (book : List ℕ) (u v : Word) (presentation : Presentation) → load_book book ≡ BookReading.read presentation → pair_of presentation.letters u v ≡ Ok tt
    → (old : List ℕ) (offset m : ℕ) (buffer : List ℕ) → least_of book u old offset ≡ WordOutcome.after (wrote m) buffer
    → (old' : List ℕ) (offset' m' : ℕ) (buffer' : List ℕ) → least_of book v old' offset' ≡ WordOutcome.after (wrote m') buffer'
    → (allowance : ℕ) → (longest_suffix_piece (words_of presentation.relations) + 1) * length u ≤ allowance
    → ((rounds : ℕ) × (compare_of book u v allowance ≡ same rounds)) ↔ (written_bytes m offset buffer ≡ written_bytes m' offset' buffer')
