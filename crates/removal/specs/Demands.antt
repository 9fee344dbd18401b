-- What is owed of the removal of a prefix, said of its answer in the words of the papers (document 01, "Taking a front off"), and what follows for its callers.
use Rattle.std.specs.Prelude.{ℕ, ◌+◌, ◌<◌, ◌≤◌, List, [], ◌++◌, ◌↔◌, ◌≡◌, length, Ok}
use Rattle.words.specs.Words.{Word}
use Rattle.words.specs.Relations.{Relation, relation_words}
use Rattle.words.specs.Families.{words_of}
use Rattle.overlap.specs.Pieces.{IsPiece}
use Rattle.congruence.specs.Congruence.{Congruent}
use Rattle.least.specs.Order.{house_rank, AtMost}
use Rattle.least.specs.Least.{LeastBehind}
use Rattle.limits.specs.Limits.{side_most, least_most}
use Rattle.format.specs.Book.{Presentation, BookReading}
use Rattle.loading.specs.Loading.{load_book}
use Rattle.asked.specs.Given.{marked_of}
use Rattle.answers.specs.Answers.{refused}
use Rattle.answers.specs.Entries.{WordOutcome, least_of}
use Rattle.answers.specs.Demands.{Placed}
use Rattle.removal.specs.Removal.{removal_of}

-- of a word u and a prefix p under relation words B: the least word w of which p w is congruent to u, of which there is one and only one, is in the buffer from the
-- offset on, exactly when there is room for it; else 14 and the old buffer
pub record WritesBehind (B : List Word) (u p : Word) (old : List ℕ) (offset : ℕ) (outcome : WordOutcome) : Type 0 where
  pub word : Word
  pub least : LeastBehind (Congruent B) house_rank p u word
  pub only : (w : Word) → LeastBehind (Congruent B) house_rank p u w → w ≡ word
  pub roomy : offset + length word ≤ length old → Placed word old offset outcome
  pub narrow : length old < offset + length word → outcome ≡ WordOutcome.after (refused 14 0) old
  pub short : length word ≤ least_most

-- of an accepted book's relations, a word and a prefix that are fine
pub record RemovesPrefix (relations : List Relation) (u p : Word) (old : List ℕ) (offset : ℕ) (outcome : WordOutcome) : Type 0 where
  -- 18 exactly when the prefix is no piece
  pub strange : (outcome ≡ WordOutcome.after (refused 18 0) old) ↔ (¬ IsPiece (words_of relations) p)
  -- 19 exactly when it is one, and no word behind it is congruent to u
  pub missing : (outcome ≡ WordOutcome.after (refused 19 0) old) ↔ (IsPiece (words_of relations) p × ((w : Word) → ¬ Congruent (relation_words relations) (p ++ w) u))
  -- else the least such word is written
  pub writes : IsPiece (words_of relations) p → (w : Word) → Congruent (relation_words relations) (p ++ w) u → WritesBehind (relation_words relations) u p old offset outcome

-- what the removal promises of its outcome: it is the definition's; and of an accepted book and words that are fine, the prefix is removed
pub record RemovalAnswered (book : List ℕ) (u p : Word) (old : List ℕ) (offset : ℕ) (outcome : WordOutcome) : Type 0 where
  pub is : outcome ≡ removal_of book u p old offset
  pub removes : (presentation : Presentation) → load_book book ≡ BookReading.read presentation → marked_of presentation.letters u p ≡ Ok tt
      → RemovesPrefix presentation.relations u p old offset outcome

-- the empty piece, whatever else is given: the least word with all its refusals
abbrev pub NothingRemoved : Type 0
NothingRemoved = (book : List ℕ) (u : Word) (old : List ℕ) (offset : ℕ) → removal_of book u [] old offset ≡ least_of book u old offset

-- a word of as many letters as a side can have is no piece of an accepted book, so that it is 18
abbrev pub LongNoPiece : Type 0
LongNoPiece = (book : List ℕ) (u p : Word) (old : List ℕ) (offset : ℕ) (presentation : Presentation) → load_book book ≡ BookReading.read presentation
    → marked_of presentation.letters u p ≡ Ok tt → side_most ≤ length p → removal_of book u p old offset ≡ WordOutcome.after (refused 18 0) old

-- a piece that was put in front of a word v comes off again: a word is found, and it is v or comes before it
abbrev pub JoinedComeOff : Type 0
JoinedComeOff = (book : List ℕ) (p v : Word) (old : List ℕ) (offset : ℕ) (presentation : Presentation) → load_book book ≡ BookReading.read presentation
    → marked_of presentation.letters (p ++ v) p ≡ Ok tt → IsPiece (words_of presentation.relations) p
    → (w : WritesBehind (relation_words presentation.relations) (p ++ v) p old offset (removal_of book (p ++ v) p old offset)) × AtMost house_rank w.word v

-- congruent words have one answer, whichever of them is given
abbrev pub ClassesAlike : Type 0
ClassesAlike = (book : List ℕ) (u v p : Word) (old : List ℕ) (offset : ℕ) (presentation : Presentation) → load_book book ≡ BookReading.read presentation
    → marked_of presentation.letters u p ≡ Ok tt → marked_of presentation.letters v p ≡ Ok tt → Congruent (relation_words presentation.relations) u v
    → removal_of book u p old offset ≡ removal_of book v p old offset

-- a refusal keeps every lent byte, whatever its number and place are
abbrev pub RemovalsKeep : Type 0
RemovalsKeep = (book : List ℕ) (u p : Word) (old : List ℕ) (offset n place : ℕ) (buffer : List ℕ)
    → removal_of book u p old offset ≡ WordOutcome.after (refused n place) buffer → buffer ≡ old
