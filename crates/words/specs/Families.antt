-- Distinct words and families (document 01, "Distinct words and families"): relation words that are equal count once, and those that relations join form a family.
-- `sides` lists the relation words of all relations in order, equal ones included; a distinct word is known by its place among the distinct words.
use Rattle.std.specs.Prelude.{ℕ, zero, suc, ◌+◌, ◌*◌, ◌<◌, min, max, cond, List, [], ◌∷◌, ◌++◌, ◌↔◌, ◌≡◌, eqb, ltb, length, get_or}
use Rattle.words.specs.Search.{least}
use Rattle.words.specs.Words.{Word, same_word}
use Rattle.words.specs.Relations.{Relation, relation_words, other}

-- the place of a word in a list, or the list's length where it is not there
unfoldable pub place_of : Word → List Word → ℕ
place_of w D = least (length D) (λ i. same_word (get_or D i []) w)

-- the list, and behind it the word unless it is there
unfoldable pub including : List Word → Word → List Word
including D w = cond (ltb (place_of w D) (length D)) D (D ++ (w ∷ []))

-- the same for several words in turn
unfoldable pub including_all : List Word → List Word → List Word
including_all D [] = D
including_all D (w ∷ ws) = including_all (including D w) ws

-- the distinct words, in order of first appearance
unfoldable pub distinct_words : List Word → List Word
distinct_words sides = including_all [] sides

-- the places of some words in a list
unfoldable pub places_in : List Word → List Word → List ℕ
places_in D [] = []
places_in D (w ∷ ws) = place_of w D ∷ places_in D ws

-- of each side the number of its word: its place among the distinct words
unfoldable pub side_words : List Word → List ℕ
side_words sides = places_in (distinct_words sides) sides

-- the number of the word of side s
abbrev pub word_of_side : List Word → ℕ → ℕ
word_of_side sides s = get_or (side_words sides) s 0

-- the numbers below n
unfoldable pub numbers_below : ℕ → List ℕ
numbers_below zero = []
numbers_below (suc n) = numbers_below n ++ (n ∷ [])

-- of families a and b one is made, whose number is the smaller
unfoldable pub merged : ℕ → ℕ → List ℕ → List ℕ
merged a b [] = []
merged a b (f ∷ fs) = cond (eqb f (max a b)) (min a b) f ∷ merged a b fs

-- the families of words i and j become one
abbrev pub merged_of : List ℕ → ℕ → ℕ → List ℕ
merged_of F i j = merged (get_or F i 0) (get_or F j 0) F

-- the families of n words after the first r relations, whose words the list of side words tells: at first each word is a family, with its own number, and each
-- relation makes one of the families of its two words
unfoldable pub families_after : List ℕ → ℕ → ℕ → List ℕ
families_after S n zero = numbers_below n
families_after S n (suc r) = merged_of (families_after S n r) (get_or S (2 * r) 0) (get_or S (2 * r + 1) 0)

-- the relation words of a presentation, each once
abbrev pub words_of : List Relation → List Word
words_of relations = distinct_words (relation_words relations)

-- of each of them the number of its family
unfoldable pub families_of : List Relation → List ℕ
families_of relations = families_after (side_words (relation_words relations)) (length (words_of relations)) (length relations)

-- the family of word i by a list of their numbers
abbrev pub family_in : List ℕ → ℕ → ℕ
family_in F i = get_or F i 0

-- the family of word i of a presentation
abbrev pub family_of : List Relation → ℕ → ℕ
family_of relations = family_in (families_of relations)

-- in words: a chain of relations leads from the first word to the second, each step from a side of a relation to its other side
pub data JoinedBy (sides : List Word) : Word → Word → Type 0 where
  here : {w : Word} → JoinedBy sides w w
  along : {w x : Word} (s : ℕ) → s < length sides → get_or sides s [] ≡ w → JoinedBy sides (get_or sides (other s) []) x → JoinedBy sides w x

-- what is shown of distinct words: they are the sides, each once, in order of first appearance
pub record DistinctRight (sides : List Word) : Type 0 where
  -- every side is one of them, the one of its number
  pub all : (s : ℕ) → s < length sides → (word_of_side sides s < length (distinct_words sides)) × (get_or (distinct_words sides) (word_of_side sides s) [] ≡ get_or sides s [])
  -- every one of them is a side
  pub only : (i : ℕ) → i < length (distinct_words sides) → (s : ℕ) × (s < length sides) × (word_of_side sides s ≡ i)
  -- no two are equal
  pub once : (i j : ℕ) → i < length (distinct_words sides) → j < length (distinct_words sides) → get_or (distinct_words sides) i [] ≡ get_or (distinct_words sides) j [] → i ≡ j
  -- one appears first before another: every side of the later word stands behind some side of the earlier
  pub ordered : (i s : ℕ) → s < length sides → i < word_of_side sides s → (r : ℕ) × (r < s) × (word_of_side sides r ≡ i)

-- the distinct words of every list of sides
abbrev pub DistinctWordsRight : Type 0
DistinctWordsRight = (sides : List Word) → DistinctRight sides

-- two words are of one family exactly when a chain of relations joins them
abbrev pub FamiliesRight : Type 0
FamiliesRight = (relations : List Relation) (i j : ℕ) → i < length (words_of relations) → j < length (words_of relations)
    → (family_of relations i ≡ family_of relations j) ↔ JoinedBy (relation_words relations) (get_or (words_of relations) i []) (get_or (words_of relations) j [])
