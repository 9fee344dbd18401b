-- A comparison that makes at most a given number of rounds and gives its words back where it is not at its end.
use Rattle.std.specs.Prelude.{ℕ, zero, suc, ◌+◌, Bool, List, ◌≡◌}
use Rattle.words.specs.Words.{Word}
use Rattle.congruence.specs.Rows.{Next, round}
use Rattle.congruence.specs.Rows.Next.{end, go}
use Rattle.congruence.specs.Rounds.{CompareAnswer, ending}
use Rattle.congruence.specs.Rounds.CompareAnswer.{spent}
use Rattle.layout.specs.Layout.{words_in}
use Rattle.layout.specs.Families.{family_by}
use Rattle.moves.specs.declared.State.{State}
use Rattle.moves.specs.State.{placed_word, placed_mark, StateFits}
use Rattle.comparison.specs.declared.Progress.{Progress}
use Rattle.comparison.specs.declared.Progress.TheVariants.{Ended, Paused}

-- the end after some rounds, or the words from which another round is due
pub data MadeRounds : Type 0 where
  ended : Bool → ℕ → MadeRounds
  paused : Word → Word → Word → ℕ → MadeRounds

abbrev pub on_round : Next → ℕ → (Word → Word → Word → MadeRounds) → MadeRounds
on_round (end b) n next = ended b n
on_round (go u v p) n next = next u v p

-- from u, v and p, where n rounds are done and `left` more are to be made
unfoldable pub rounds_from : List Word → (ℕ → ℕ) → ℕ → ℕ → Word → Word → Word → MadeRounds
rounds_from B family zero n u v p = on_round (round B family u v p) n (λ _ _ _. paused u v p n)
rounds_from B family (suc left) n u v p = on_round (round B family u v p) n (rounds_from B family left (n + 1))

-- a comparison that is paused for want of rounds is spent
abbrev pub answered : MadeRounds → CompareAnswer
answered (ended b n) = ending b n
answered (paused u v p n) = spent n

-- rounds made by the code, in the words of the rows
abbrev pub rounds_of : List ℕ → Word → Word → Progress → MadeRounds
rounds_of text first second (Ended b n) = ended b n
rounds_of text first second (Paused s n) = paused (placed_word text first s.u) (placed_word text second s.v) (placed_mark text s.mark) n

-- a state that comes back stands
abbrev pub ProgressFits : List ℕ → List Word → Word → Word → Progress → Type 0
ProgressFits text B first second (Ended b n) = Unit {0}
ProgressFits text B first second (Paused s n) = StateFits text B first second s

-- the rounds made are those of the rows from the words that the state stands for, at most so many
pub record Progressed (text table : List ℕ) (n : ℕ) (first second : Word) (s : State) (budget : ℕ) (r : Progress) : Type 0 where
  pub same : rounds_of text first second r ≡ rounds_from (words_in text table n) (family_by table n) budget 0 (placed_word text first s.u) (placed_word text second s.v) (placed_mark text s.mark)
  pub stands : ProgressFits text (words_in text table n) first second r
