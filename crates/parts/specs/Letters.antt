-- A round that takes the first letter of the word, where no clean relation prefix begins: what is left, what is written, and what stays known.
use Rattle.std.specs.Prelude.{ℕ, ◌+◌, ◌≤◌, cond, Option, Some, None, List, eqb, ltb, get_or}
use Rattle.moves.specs.declared.PlacedWord.{PlacedWord}
use Rattle.moves.specs.State.{MarkFits}
use Rattle.parts.specs.declared.Hint.{Hint}
use Rattle.parts.specs.declared.Source.{Source}
use Rattle.parts.specs.declared.Source.TheVariants as Sources

-- the places of a held word are small
pub record WordSmall (h : PlacedWord) : Type 0 where
  pub to : h.to ≤ 65536
  pub from : h.from ≤ 65536

-- a held word without its first letter
unfoldable pub without_letter : PlacedWord → PlacedWord
without_letter h = cond (ltb h.at h.to) (record { at = h.at + 1; to = h.to; from = h.from }) (record { at = h.at; to = h.to; from = h.from + 1 })

-- where its first letter stands
unfoldable pub first_source : PlacedWord → Source
first_source h = cond (ltb h.at h.to) (Sources.Text h.at (h.at + 1)) (Sources.Given h.from (h.from + 1))

-- the mark of a hint lies in the text
abbrev pub HintLies : List ℕ → Option Hint → Type 0
HintLies text None = Unit {0}
HintLies text (Some h) = MarkFits text h.mark

-- what is known behind the first letter x: the same of the mark without that letter
unfoldable pub hint_behind : List ℕ → Option Hint → ℕ → Option Hint
hint_behind text None x = None
hint_behind text (Some h) x =
    cond (ltb h.mark.at h.mark.to) (cond (eqb (get_or text h.mark.at 0) x) (Some (record { mark = record { at = h.mark.at + 1; to = h.mark.to }; possible = h.possible })) None) None
