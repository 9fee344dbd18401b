-- The theorem (document 003, Lemmas 5 and 6; document 01, "Exchanges and rounds" and demand 3): under relations whose distinct words meet C(4) the rows always
-- end, within the bound, and their answer is whether the two words are congruent. What it speaks of:
--   `words_of` (the relation words, each once) and `family_of` (which of them relations join), in crate `words`, specs/Families.antt;
--   `C4` (no relation word is a product of three or fewer pieces), in crate `overlap`, specs/Pieces.antt;
--   `Congruent` (a chain of rewrite steps of single relations joins the words), in Congruence.antt;
--   `round` (the eight rows), in Rows.antt; `Rounds` (how many of them there are up to the end) and `compare_under` (the answer under an allowance), in Rounds.antt.
use Rattle.std.specs.Prelude.{ℕ, ◌+◌, ◌*◌, ◌<◌, ◌≤◌, Bool, true, false, List, [], ◌++◌, ◌↔◌, ◌≡◌, length, drop}
use Rattle.words.specs.Words.{Word}
use Rattle.words.specs.Relations.{Relation, relation_words}
use Rattle.words.specs.Families.{words_of, family_of}
use Rattle.overlap.specs.Pieces.{word, C4}
use Rattle.overlap.specs.Cuts.{z_of, longest_suffix_piece}
use Rattle.congruence.specs.Congruence.{Congruent}
use Rattle.congruence.specs.Rows.{round}
use Rattle.congruence.specs.Rows.Next.{go}
use Rattle.congruence.specs.Rounds.{Rounds, compare_under}
use Rattle.congruence.specs.PairRows.{pair_round, PairRounds}
use Rattle.congruence.specs.Rounds.CompareAnswer.{same, different, spent}

-- what the rows decide of two words under relations
pub record Decision (relations : List Relation) (u v : Word) : Type 0 where
  -- the rows end: after this many rounds, with 'same' for true; and in no other way
  pub rounds : ℕ
  pub result : Bool
  pub made : Rounds (words_of relations) (family_of relations) u v [] rounds result
  pub only : (n : ℕ) (b : Bool) → Rounds (words_of relations) (family_of relations) u v [] n b → (n ≡ rounds) × (b ≡ result)
  -- the end is 'same' exactly when a chain joins the words, 'different' exactly when none does
  pub congruent : (result ≡ true) ↔ Congruent (relation_words relations) u v
  pub apart : (result ≡ false) ↔ (¬ Congruent (relation_words relations) u v)
  -- the rounds are at most (k + 2) times the first word's length; in fact at most (k + 1) times the shorter one's
  pub bound : rounds ≤ (longest_suffix_piece (words_of relations) + 2) * length u
  pub closer : (rounds ≤ (longest_suffix_piece (words_of relations) + 1) * length u) × (rounds ≤ (longest_suffix_piece (words_of relations) + 1) * length v)
  -- under an allowance: spent exactly when it is below the rounds; else the end, with the count of rounds
  pub spends : (allowance : ℕ) → (compare_under (words_of relations) (family_of relations) allowance u v ≡ spent allowance) ↔ (allowance < rounds)
  pub joins : (allowance : ℕ) → (compare_under (words_of relations) (family_of relations) allowance u v ≡ same rounds) ↔ ((rounds ≤ allowance) × Congruent (relation_words relations) u v)
  pub parts : (allowance : ℕ) → (compare_under (words_of relations) (family_of relations) allowance u v ≡ different rounds) ↔ ((rounds ≤ allowance) × (¬ Congruent (relation_words relations) u v))

-- the rows decide congruence: every presentation whose distinct words meet C(4), every two words
abbrev pub RowsDecide : Type 0
RowsDecide = (relations : List Relation) → C4 (words_of relations) → (u v : Word) → Decision relations u v

-- where no word is on two sides, the rounds are those of the rows for pairs
pub record AsPairs (relations : List Relation) : Type 0 where
  pub words : words_of relations ≡ relation_words relations
  pub round : (u v p : Word) → round (words_of relations) (family_of relations) u v p ≡ pair_round (relation_words relations) u v p
  pub rounds : (u v p : Word) (n : ℕ) (b : Bool) → Rounds (words_of relations) (family_of relations) u v p n b ↔ PairRounds (relation_words relations) u v p n b

-- no word is on two sides
abbrev pub NoneShared : List Relation → Type 0
NoneShared relations = (i j : ℕ) → i < length (relation_words relations) → j < length (relation_words relations)
    → word (relation_words relations) i ≡ word (relation_words relations) j → i ≡ j

abbrev pub PairsUnchanged : Type 0
PairsUnchanged = (relations : List Relation) → NoneShared relations → C4 (words_of relations) → AsPairs relations

-- replacing a relation word by a member of its family is a chain of rewrite steps of single relations
abbrev pub MembersCongruent : Type 0
MembersCongruent = (relations : List Relation) (i j : ℕ) → i < length (words_of relations) → j < length (words_of relations) → family_of relations i ≡ family_of relations j
    → (before after : Word) → Congruent (relation_words relations) (before ++ (word (words_of relations) i ++ after)) (before ++ (word (words_of relations) j ++ after))

-- the words from which a comparison of u and v goes on after some rounds
pub data AfterRounds (B : List Word) (family : ℕ → ℕ) (u v : Word) : Word → Word → Word → Type 0 where
  no_round : AfterRounds B family u v u v []
  one_more : {u₁ v₁ p₁ u₂ v₂ p₂ : Word} → AfterRounds B family u v u₁ v₁ p₁ → round B family u₁ v₁ p₁ ≡ go u₂ v₂ p₂ → AfterRounds B family u v u₂ v₂ p₂

-- an end of the Z of some relation word, or nothing
pub data EndOfTail (B : List Word) (z : Word) : Type 0 where
  nothing : z ≡ [] → EndOfTail B z
  of : (i n : ℕ) → i < length B → z ≡ drop n (z_of B i) → EndOfTail B z

-- an end of some tail followed by an end of the given word
pub record TailThenRest (B : List Word) (given w : Word) : Type 0 where
  pub tail : Word
  pub from : ℕ
  pub ends : EndOfTail B tail
  pub within : from ≤ length given
  pub made : w ≡ tail ++ drop from given

-- what a comparison goes on from always has this shape
abbrev pub ComparisonShape : Type 0
ComparisonShape = (relations : List Relation) → C4 (words_of relations) → (u v u₁ v₁ p₁ : Word) → AfterRounds (words_of relations) (family_of relations) u v u₁ v₁ p₁
    → TailThenRest (words_of relations) u u₁ × TailThenRest (words_of relations) v v₁ × EndOfTail (words_of relations) p₁
