-- The words that a state of the least word stands for, what one round promises, and what stays true of the state.
use Rattle.std.specs.Prelude.{ℕ, ◌+◌, ◌-◌, ◌*◌, ◌≤◌, ◌<◌, Bool, Option, Some, None, List, ◌≡◌, length, get_or, drop}
use Rattle.words.specs.Words.{Word, part}
use Rattle.least.specs.Order.{house_rank}
use Rattle.least.specs.Possible.{possible}
use Rattle.least.specs.Writing.{Part, write_part}
use Rattle.least.specs.Writing.Part.{end, none, part as writes}
use Rattle.layout.specs.Places.{word_most, letters_bound}
use Rattle.layout.specs.Layout.{words_in}
use Rattle.layout.specs.Families.{family_by, Ready}
use Rattle.moves.specs.declared.PlacedWord.{PlacedWord}
use Rattle.moves.specs.declared.Mark.{Mark}
use Rattle.moves.specs.State.{placed_word, placed_mark, WordFits, MarkFits}
use Rattle.parts.specs.declared.Hint.{Hint}
use Rattle.parts.specs.declared.LeastState.{LeastState}
use Rattle.parts.specs.declared.Source.{Source}
use Rattle.parts.specs.declared.Source.TheVariants as Sources
use Rattle.parts.specs.declared.Stage.{Stage}
use Rattle.parts.specs.declared.Stage.TheVariants as Stages

-- the letters that are written
unfoldable pub source_word : List ℕ → Word → Source → Word
source_word text given (Sources.Text from to) = part text from to
source_word text given (Sources.Given from to) = part given from to

-- a round in the words of the rounds' definition
abbrev pub stage_part : List ℕ → Word → Option Stage → Part
stage_part text given None = none
stage_part text given (Some Stages.End) = end
stage_part text given (Some (Stages.Go c s)) = writes (source_word text given c) (placed_mark text s.mark) (placed_word text given s.word)

-- every letter of w is one that a head can have
pub record LettersLow (w : Word) : Type 0 where
  pub at : (k : ℕ) → k < length w → get_or w k 0 < letters_bound

-- what is known of the word: it is only the rest of the given word, and the walk for the mark q gives b
pub record HintTold (text : List ℕ) (B : List Word) (family : ℕ → ℕ) (given : Word) (h : PlacedWord) (q : Mark) (b : Bool) : Type 0 where
  pub bare : h.to ≤ h.at
  pub mark : MarkFits text q
  pub told : possible B family (placed_mark text q) (drop h.from given) ≡ b

abbrev pub HintRight : List ℕ → List Word → (ℕ → ℕ) → Word → PlacedWord → Option Hint → Type 0
HintRight text B family given h None = Unit {0}
HintRight text B family given h (Some k) = HintTold text B family given h k.mark k.possible

-- the first state: the whole given word, and a mark
abbrev pub start_state : Mark → LeastState
start_state m = record { word = record { at = 0; to = 0; from = 0 }; mark = m; hint = None }

-- a state whose word and mark are held, and whose hint is right
pub record LeastFits (text : List ℕ) (B : List Word) (family : ℕ → ℕ) (given : Word) (s : LeastState) : Type 0 where
  pub word : WordFits text B given s.word
  pub low : LettersLow (part text s.word.at s.word.to)
  pub mark : MarkFits text s.mark
  pub hint : HintRight text B family given s.word s.hint

-- a state from which a round can be made, in a given word whose places are small
pub record LeastReady (text table : List ℕ) (n : ℕ) (given : Word) (s : LeastState) : Type 0 where
  pub ready : Ready text table n
  pub short : length given ≤ 65536
  pub standing : LeastFits text (words_in text table n) (family_by table n) given s

-- what falls with every round: a letter of the given word weighs more than any part of the text
abbrev pub weight : Word → PlacedWord → ℕ
weight given h = (h.to - h.at) + (word_most + 1) * (length given - h.from)

-- letters from one place of w to another lie in it, are few, and are letters if those of the given word are
pub record LettersFit (w given : Word) (from to : ℕ) : Type 0 where
  pub up : from ≤ to
  pub short : to ≤ from + word_most
  pub inside : to ≤ length w
  pub low : LettersLow given → LettersLow (part w from to)

-- the letters written do so where they are said to lie
abbrev pub SourceFits : List ℕ → Word → Source → Type 0
SourceFits text given (Sources.Text from to) = LettersFit text given from to
SourceFits text given (Sources.Given from to) = LettersFit given given from to

-- what a round that goes on leaves: letters that can be written, a state that stands, and less to do
pub record Goes (text : List ℕ) (B : List Word) (family : ℕ → ℕ) (given : Word) (s : LeastState) (c : Source) (next : LeastState) : Type 0 where
  pub source : SourceFits text given c
  pub stands : LeastFits text B family given next
  pub lighter : weight given next.word < weight given s.word

abbrev pub StageStands : List ℕ → List Word → (ℕ → ℕ) → Word → LeastState → Option Stage → Type 0
StageStands text B family given s None = Unit {0}
StageStands text B family given s (Some Stages.End) = Unit {0}
StageStands text B family given s (Some (Stages.Go c next)) = Goes text B family given s c next

-- a round that is made from s gives this part
pub record Makes (text : List ℕ) (B : List Word) (family : ℕ → ℕ) (given : Word) (s : LeastState) (part : Part) (r : Option Stage) : Type 0 where
  pub same : stage_part text given r ≡ part
  pub stands : StageStands text B family given s r

-- one round of a state is one part of the least word behind the mark and for the word that it stands for
pub record PartMade (text table : List ℕ) (n : ℕ) (given : Word) (s : LeastState) (r : Option Stage) : Type 0 where
  pub same : stage_part text given r ≡ write_part (words_in text table n) (family_by table n) house_rank (placed_mark text s.mark) (placed_word text given s.word)
  pub stands : StageStands text (words_in text table n) (family_by table n) given s r
