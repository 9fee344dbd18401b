-- What the functions that make one round ask.
use Rattle.std.specs.Prelude.{ℕ, ◌+◌, ◌≤◌, ◌<◌, Bool, true, false, Option, List, ◌≡◌, length, drop}
use Rattle.words.specs.Words.{Word, is_prefix}
use Rattle.overlap.specs.Cuts.{xylen, zlen, z_of}
use Rattle.congruence.specs.Rows.{clean_relation_prefix}
use Rattle.least.specs.Order.{house_rank}
use Rattle.least.specs.Writing.{chosen_member}
use Rattle.layout.specs.Layout.{words_in}
use Rattle.layout.specs.Families.{family_by}
use Rattle.sites.specs.declared.Site.{Site}
use Rattle.moves.specs.declared.Mark.{Mark}
use Rattle.moves.specs.State.{placed_word, placed_mark}
use Rattle.moves.specs.Drops.{held_empty}
use Rattle.parts.specs.declared.LeastState.{LeastState}
use Rattle.parts.specs.declared.Choice.{Choice}
use Rattle.parts.specs.State.{LeastReady}
use Rattle.parts.specs.Choices.{ToldRight, ChoiceMade}

-- a state whose word has a letter and no clean relation prefix
pub record LetterAsked (text table : List ℕ) (n : ℕ) (given : Word) (s : LeastState) : Type 0 where
  pub ready : LeastReady text table n given s
  pub some : held_empty (length given) s.word ≡ false
  pub none : length (words_in text table n) ≤ clean_relation_prefix (words_in text table n) (placed_word text given s.word)

-- the places of a relation word and of a mark are small
pub record PlacesSmall (s : Site) (m : Mark) : Type 0 where
  pub start : s.start ≤ 65536
  pub up : m.at ≤ m.to
  pub mark : m.to ≤ 65536

-- the last l letters of the Z at s and of the one at z, whose places are small
pub record EndsShared (s z : Site) (m : Mark) (l k : ℕ) : Type 0 where
  pub small : PlacesSmall z m
  pub own : s.tail + l ≤ s.stop
  pub other : l ≤ z.stop
  pub low : s.stop ≤ 65536
  pub early : k ≤ 65536

-- relation word i is the clean relation prefix of the state's word
pub record CleanAsked (text table : List ℕ) (n : ℕ) (given : Word) (s : LeastState) (i : ℕ) : Type 0 where
  pub ready : LeastReady text table n given s
  pub there : i < n
  pub clean : i ≡ clean_relation_prefix (words_in text table n) (placed_word text given s.word)

-- relation word i is the clean relation prefix of the state's word, and the given word from k on follows its X and Y
pub record RestFound (text table : List ℕ) (n : ℕ) (given : Word) (s : LeastState) (i k : ℕ) : Type 0 where
  pub asked : CleanAsked text table n given s i
  pub rest : drop (xylen (words_in text table n) i) (placed_word text given s.word) ≡ drop k given
  pub later : s.word.from < k
  pub within : k ≤ length given

-- the same, and what is told of Z of i behind X and Y is right
pub record ToldFound (text table : List ℕ) (n : ℕ) (given : Word) (s : LeastState) (i k : ℕ) (t : Option Bool) : Type 0 where
  pub found : RestFound text table n given s i k
  pub told : ToldRight (words_in text table n) (family_by table n) given i k t

-- the same, and the member that the least word begins with is chosen
pub record ChoiceFound (text table : List ℕ) (n : ℕ) (given : Word) (s : LeastState) (i k : ℕ) (c : Choice) : Type 0 where
  pub found : RestFound text table n given s i k
  pub made : ChoiceMade text table n given s.mark i k c

-- the same, and there is such a member, and Z of i does not follow X and Y
pub record ApartFound (text table : List ℕ) (n : ℕ) (given : Word) (s : LeastState) (i k : ℕ) (c : Choice) : Type 0 where
  pub choice : ChoiceFound text table n given s i k c
  pub known : c.member < n
  pub apart : is_prefix (z_of (words_in text table n) i) (drop k given) ≡ false

-- the same as what is found with a clean relation prefix, and the chosen member is j
pub record MemberFound (text table : List ℕ) (n : ℕ) (given : Word) (s : LeastState) (i k j : ℕ) : Type 0 where
  pub found : RestFound text table n given s i k
  pub member : j ≡ chosen_member (words_in text table n) (family_by table n) house_rank i (placed_mark text s.mark) (drop k given)
  pub known : j < n

-- the same, and Z of i follows X and Y; it ends at place k of the given word
pub record WholeFound (text table : List ℕ) (n : ℕ) (given : Word) (s : LeastState) (i j k : ℕ) : Type 0 where
  pub before : ℕ
  pub chosen : MemberFound text table n given s i before j
  pub whole : is_prefix (z_of (words_in text table n) i) (drop before given) ≡ true
  pub place : k ≡ before + zlen (words_in text table n) i

-- the same, and Z of i does not follow X and Y, and j is another than i
pub record OtherFound (text table : List ℕ) (n : ℕ) (given : Word) (s : LeastState) (i j k : ℕ) : Type 0 where
  pub chosen : MemberFound text table n given s i k j
  pub apart : is_prefix (z_of (words_in text table n) i) (drop k given) ≡ false
  pub differs : j ≡ i → ⊥
