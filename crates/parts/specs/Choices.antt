-- A round with a clean relation prefix: the member that the least word begins with, what the walk for that tells, and the letters that are written.
use Rattle.std.specs.Prelude.{ℕ, ◌+◌, ◌-◌, Bool, true, false, cond, not, Option, Some, None, List, ◌≡◌, drop}
use Rattle.words.specs.Words.{Word}
use Rattle.overlap.specs.Cuts.{z_of}
use Rattle.least.specs.Order.{house_rank}
use Rattle.least.specs.Possible.{possible}
use Rattle.least.specs.Writing.{chosen_member}
use Rattle.layout.specs.Layout.{words_in}
use Rattle.layout.specs.Families.{family_by}
use Rattle.sites.specs.declared.Site.{Site}
use Rattle.moves.specs.declared.Mark.{Mark}
use Rattle.moves.specs.State.{placed_mark}
use Rattle.parts.specs.declared.Hint.{Hint}
use Rattle.parts.specs.declared.LeastState.{LeastState}
use Rattle.parts.specs.declared.Source.{Source}
use Rattle.parts.specs.declared.Source.TheVariants as Sources
use Rattle.parts.specs.declared.Stage.{Stage}
use Rattle.parts.specs.declared.Stage.TheVariants as Stages
use Rattle.parts.specs.declared.Choice.{Choice}

-- what is told of Z of relation word i and the given word from k on is what the walk gives
abbrev pub ToldRight : List Word → (ℕ → ℕ) → Word → ℕ → ℕ → Option Bool → Type 0
ToldRight B family given i k None = Unit {0}
ToldRight B family given i k (Some b) = possible B family (z_of B i) (drop k given) ≡ b

-- it is told that Z is not possible
unfoldable pub denied_by : Option Bool → Bool
denied_by None = false
denied_by (Some b) = not b

-- the member of i's family that the least word begins with, where the given word from k on follows X and Y of i
pub record ChoiceMade (text table : List ℕ) (n : ℕ) (given : Word) (mark : Mark) (i k : ℕ) (c : Choice) : Type 0 where
  pub member : c.member ≡ chosen_member (words_in text table n) (family_by table n) house_rank i (placed_mark text mark) (drop k given)
  pub told : ToldRight (words_in text table n) (family_by table n) given i k c.told

-- what is known of the given word from k on where something is told of the Z at s
unfoldable pub hint_of : Site → Option Bool → Option Hint
hint_of s None = None
hint_of s (Some b) = Some (record { mark = record { at = s.tail; to = s.stop }; possible = b })

-- the letters of the relation word at s behind the mark, up to a place
unfoldable pub source_behind : Site → Mark → ℕ → Source
source_behind s m to = Sources.Text (s.start + (m.to - m.at)) to

-- the state whose word is the given word from k on
unfoldable pub rest_state : ℕ → Mark → Option Hint → LeastState
rest_state k m h = record { word = record { at = 0; to = 0; from = k }; mark = m; hint = h }

-- the state whose word is the Z at s and then the given word from k on
unfoldable pub tail_state : Site → ℕ → Mark → LeastState
tail_state s k m = record { word = record { at = s.tail; to = s.stop; from = k }; mark = m; hint = None }

-- the round that writes X and Y of the relation word at s behind the mark, and goes on with the given word from k on
unfoldable pub own_stage : Site → Mark → ℕ → Option Bool → Stage
own_stage s m k t = Stages.Go (source_behind s m s.tail) (rest_state k (record { at = 0; to = 0 }) (hint_of s t))

-- the round with the relation word at z in the place of the one at s, where the last l letters of both Z agree: the letters before these stand in the given word
-- at k and are left out, or the whole word is written
unfoldable pub other_stage : Site → Site → Mark → ℕ → ℕ → Bool → Stage
other_stage s z m l k stands =
    cond stands
    (Stages.Go (source_behind z m (z.stop - l)) (rest_state (k + (s.stop - l - s.tail)) (record { at = 0; to = 0 }) (Some (record { mark = record { at = s.stop - l; to = s.stop }; possible = true }))))
    (Stages.Go (source_behind z m z.stop) (rest_state k (record { at = s.tail; to = s.stop }) (Some (record { mark = record { at = s.tail; to = s.stop }; possible = true }))))
