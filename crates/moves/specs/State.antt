-- The words that a comparison's state stands for, and what one change makes of it.
use Rattle.std.specs.Prelude.{ℕ, ◌+◌, ◌-◌, ◌≤◌, cond, List, ◌++◌, ◌≡◌, ltb, length, drop}
use Rattle.words.specs.Words.{Word, part}
use Rattle.congruence.specs.Rows.{Next, round}
use Rattle.congruence.specs.Rows.Next.{end, go}
use Rattle.congruence.specs.NoRelationPrefix.{NoRelationPrefix}
use Rattle.layout.specs.Places.{word_most}
use Rattle.layout.specs.Layout.{words_in}
use Rattle.layout.specs.Families.{family_by, Ready}
use Rattle.changes.specs.declared.Change.{Change}
use Rattle.changes.specs.declared.Changes.{Changes}
use Rattle.asked.specs.declared.Round.{Round}
use Rattle.asked.specs.declared.Round.TheVariants as Rounds
use Rattle.limits.specs.Limits.{compared_most}
use Rattle.moves.specs.declared.PlacedWord.{PlacedWord}
use Rattle.moves.specs.declared.Mark.{Mark}
use Rattle.moves.specs.declared.State.{State}

-- the word that is held
abbrev pub placed_word : List ℕ → Word → PlacedWord → Word
placed_word text source h = part text h.at h.to ++ drop h.from source

-- the front mark
abbrev pub placed_mark : List ℕ → Mark → Word
placed_mark text m = part text m.at m.to

-- a held word lies in the text and in the given word, and no X and Y stands in its part of the text
pub record WordFits (text : List ℕ) (B : List Word) (source : Word) (h : PlacedWord) : Type 0 where
  pub up : h.at ≤ h.to
  pub inside : h.to ≤ length text
  pub short : h.to ≤ h.at + word_most
  pub within : h.from ≤ length source
  pub no_prefix : NoRelationPrefix B (part text h.at h.to)

pub record MarkFits (text : List ℕ) (m : Mark) : Type 0 where
  pub up : m.at ≤ m.to
  pub inside : m.to ≤ length text
  pub short : m.to ≤ m.at + word_most

-- a state whose words and mark are held
pub record StateFits (text : List ℕ) (B : List Word) (first second : Word) (s : State) : Type 0 where
  pub u : WordFits text B first s.u
  pub v : WordFits text B second s.v
  pub mark : MarkFits text s.mark

-- how far a cut goes beyond a part of some length
abbrev pub beyond_of : ℕ → ℕ → ℕ
beyond_of cut length = cut - length

-- what a change asks of the word that it is made to: no difference and no sum of the code leaves its range
pub record Movable (h : PlacedWord) (c : Change) : Type 0 where
  pub up : h.at ≤ h.to
  pub low : h.to ≤ 65536
  pub early : h.from ≤ 65536
  pub small : c.cut ≤ 131072

-- the word after a change: a new part of the text takes the place of the old one, or the cut leaves some of the old one, or none
unfoldable pub advanced_of : PlacedWord → Change → PlacedWord
advanced_of h c =
    cond (ltb c.from c.to) (record { at = c.from; to = c.to; from = h.from + (c.cut - (h.to - h.at)) })
    (cond (ltb c.cut (h.to - h.at)) (record { at = h.at + c.cut; to = h.to; from = h.from })
    (record { at = h.to; to = h.to; from = h.from + (c.cut - (h.to - h.at)) }))

pub record MarkMovable (m : Mark) (c : Change) : Type 0 where
  pub low : m.at ≤ 65536
  pub small : c.cut ≤ 131072

unfoldable pub advanced_mark : Mark → Change → Mark
advanced_mark m c = cond (ltb c.from c.to) (record { at = c.from; to = c.to }) (record { at = m.at + c.cut; to = m.to })

-- the state after three changes
abbrev pub advanced_state : State → Changes → State
advanced_state s c = record { u = advanced_of s.u c.u; v = advanced_of s.v c.v; mark = advanced_mark s.mark c.mark }

-- what carrying a plan out gives
abbrev pub move_of : State → Round Changes → Round State
move_of s (Rounds.End b) = Rounds.End b
move_of s (Rounds.Next c) = Rounds.Next (advanced_state s c)

-- a plan whose changes can be made
abbrev pub Applicable : State → Round Changes → Type 0
Applicable s (Rounds.End b) = Unit {0}
Applicable s (Rounds.Next c) = Movable s.u c.u × Movable s.v c.v × MarkMovable s.mark c.mark

-- two words within the limit of a comparison, under a checked presentation
pub record Fitting (text table : List ℕ) (n : ℕ) (first second : Word) : Type 0 where
  pub ready : Ready text table n
  pub first_short : length first ≤ compared_most
  pub second_short : length second ≤ compared_most

-- a state from which a round can be made
pub record StateReady (text table : List ℕ) (n : ℕ) (first second : Word) (s : State) : Type 0 where
  pub fitting : Fitting text table n first second
  pub standing : StateFits text (words_in text table n) first second s

-- a step in the words of the rows
abbrev pub move_next : List ℕ → Word → Word → Round State → Next
move_next text first second (Rounds.End b) = end b
move_next text first second (Rounds.Next s) = go (placed_word text first s.u) (placed_word text second s.v) (placed_mark text s.mark)

-- the next state, if there is one, stands
abbrev pub MoveFits : List ℕ → List Word → Word → Word → Round State → Type 0
MoveFits text B first second (Rounds.End b) = Unit {0}
MoveFits text B first second (Rounds.Next s) = StateFits text B first second s

-- one step of a state is one round of the rows from the words that it stands for
pub record RoundMade (text table : List ℕ) (n : ℕ) (first second : Word) (s : State) (step : Round State) : Type 0 where
  pub same : move_next text first second step ≡ round (words_in text table n) (family_by table n) (placed_word text first s.u) (placed_word text second s.v) (placed_mark text s.mark)
  pub stands : MoveFits text (words_in text table n) first second step
