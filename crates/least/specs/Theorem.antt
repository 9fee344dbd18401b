-- What is shown of least words, of every presentation whose distinct words meet C(4), every rank in which different letters differ, and every piece as the first mark.
use Rattle.std.specs.Prelude.{ℕ, zero, suc, ◌+◌, ◌*◌, ◌≤◌, max, true, List, [], ◌++◌, ◌↔◌, ◌≡◌, length}
use Rattle.words.specs.Words.{Word}
use Rattle.words.specs.Relations.{Relation, relation_words}
use Rattle.words.specs.Families.{words_of, family_of}
use Rattle.overlap.specs.Pieces.{IsPiece, C4}
use Rattle.overlap.specs.Cuts.{len, longest_suffix_piece}
use Rattle.congruence.specs.Congruence.{Congruent}
use Rattle.least.specs.Order.{Injective}
use Rattle.least.specs.Least.{LeastBehind, LeastWord}
use Rattle.least.specs.Possible.{possible}
use Rattle.least.specs.Writing.{Found, found, absent, Parts, least_behind}

-- the length of the longest of the first n relation words
unfoldable pub longest_of : List Word → ℕ → ℕ
longest_of B zero = 0
longest_of B (suc n) = max (longest_of B n) (len B n)

-- the length of the longest relation word, and at least 1: a letter that stands in no relation word is written as it is
abbrev pub longest_word : List Word → ℕ
longest_word B = max 1 (longest_of B (length B))

-- what the rounds give for a mark p and a word u under relation words B in families, whose congruence is `Joined`
pub record Written (B : List Word) (family rank : ℕ → ℕ) (Joined : Word → Word → Type 0) (p u : Word) : Type 0 where
  -- they end: after so many rounds, with this result; and in no other way
  pub rounds : ℕ
  pub result : Found
  pub made : Parts B family rank p u rounds result
  pub only : (n : ℕ) (r : Found) → Parts B family rank p u n r → (n ≡ rounds) × (r ≡ result)
  pub bound : rounds ≤ (longest_suffix_piece B + 1) * length u
  -- what computes gives it
  pub computed : least_behind B family rank p u ≡ result
  -- a word is found exactly when it is the least, and none is found exactly when there is none
  pub least : (w : Word) → (result ≡ found w) ↔ LeastBehind Joined rank p u w
  pub missing : (result ≡ absent) ↔ ((w : Word) → ¬ Joined (p ++ w) u)
  -- its length is at most that of the longest relation word for each letter of u
  pub short : (w : Word) → result ≡ found w → length w ≤ longest_word B * length u

-- the rounds write the least word
abbrev pub RoundsWriteLeast : Type 0
RoundsWriteLeast = (relations : List Relation) → C4 (words_of relations) → (rank : ℕ → ℕ) → Injective rank
    → (p u : Word) → IsPiece (words_of relations) p → Written (words_of relations) (family_of relations) rank (Congruent (relation_words relations)) p u

-- least words of single words: every word has one and only one, and two words are congruent exactly when theirs are equal
pub record LeastWords (relations : List Relation) (rank : ℕ → ℕ) : Type 0 where
  pub exists : (u : Word) → (w : Word) × LeastWord (relation_words relations) rank u w
  pub unique : (u w x : Word) → LeastWord (relation_words relations) rank u w → LeastWord (relation_words relations) rank u x → w ≡ x
  pub decides : (u v w x : Word) → LeastWord (relation_words relations) rank u w → LeastWord (relation_words relations) rank v x → Congruent (relation_words relations) u v ↔ (w ≡ x)
  -- the rounds from the empty mark give it
  pub computed : (u w : Word) → (least_behind (words_of relations) (family_of relations) rank [] u ≡ found w) ↔ LeastWord (relation_words relations) rank u w
  pub short : (u w : Word) → LeastWord (relation_words relations) rank u w → length w ≤ longest_word (words_of relations) * length u

abbrev pub LeastWordsDecide : Type 0
LeastWordsDecide = (relations : List Relation) → C4 (words_of relations) → (rank : ℕ → ℕ) → Injective rank → LeastWords relations rank

-- the walk tells whether a piece is a possible prefix
abbrev pub WalkTellsPossible : Type 0
WalkTellsPossible = (relations : List Relation) → C4 (words_of relations) → (p u : Word) → IsPiece (words_of relations) p
    → (possible (words_of relations) (family_of relations) p u ≡ true) ↔ ((w : Word) × Congruent (relation_words relations) (p ++ w) u)
