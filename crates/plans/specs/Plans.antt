-- What a plan stands for, and what fits of one: the three changes by which a round makes its next words (document 01, "Exchanges and rounds").
use Rattle.std.specs.Prelude.{ℕ, ◌+◌, ◌≤◌, ◌<◌, Bool, true, List, ◌++◌, ◌≡◌, length, drop}
use Rattle.words.specs.Words.{Word, is_prefix, part}
use Rattle.overlap.specs.Cuts.{xylen, xy_of, z_of}
use Rattle.congruence.specs.Rows.{round}
use Rattle.congruence.specs.Rows as Rows
use Rattle.congruence.specs.Rows.Next.{end, go}
use Rattle.layout.specs.Places.{word_most}
use Rattle.layout.specs.Layout.{words_in}
use Rattle.layout.specs.Families.{family_by}
use Rattle.changes.specs.declared.Change.{Change}
use Rattle.changes.specs.declared.Changes.{Changes}
use Rattle.asked.specs.declared.Round.{Round}
use Rattle.asked.specs.declared.Round.TheVariants.{End, Next}

-- the word that a change makes of w
abbrev pub applied : List ℕ → Change → Word → Word
applied text c w = part text c.from c.to ++ drop c.cut w

-- what a plan makes of u, v and p
unfoldable pub planned : List ℕ → Word → Word → Word → Round Changes → Rows.Next
planned text u v p (End b) = end b
planned text u v p (Next c) = go (applied text c.u u) (applied text c.v v) (applied text c.mark p)

-- a part of the text that is put in front is a Z, and what is cut then begins with the X and Y of a relation word
pub record Tailed (text : List ℕ) (B : List Word) (w : Word) (c : Change) : Type 0 where
  pub of : ℕ
  pub known : of < length B
  pub tail : part text c.from c.to ≡ z_of B of
  pub by : ℕ
  pub there : by < length B
  pub prefix : is_prefix (xy_of B by) w ≡ true
  pub taken : xylen B by ≤ c.cut

-- a change of u or v lies in the text and in the word
pub record Fit (text : List ℕ) (B : List Word) (w : Word) (c : Change) : Type 0 where
  pub up : c.from ≤ c.to
  pub inside : c.to ≤ length text
  pub short : c.to ≤ c.from + word_most
  pub within : c.cut ≤ length w
  pub tailed : c.from < c.to → Tailed text B w c

-- a change of the front mark: a part of the text takes the place of the whole mark
pub record MarkFit (text : List ℕ) (B : List Word) (p : Word) (c : Change) : Type 0 where
  pub up : c.from ≤ c.to
  pub inside : c.to ≤ length text
  pub short : c.to ≤ c.from + word_most
  pub within : c.cut ≤ length p
  pub whole : c.from < c.to → c.cut ≡ length p

-- the three changes of a plan fit
pub data PlanFit (text : List ℕ) (B : List Word) (u v p : Word) : Round Changes → Type 0 where
  ends : {b : Bool} → PlanFit text B u v p (End b)
  goes : {c : Changes} → Fit text B u c.u → Fit text B v c.v → MarkFit text B p c.mark → PlanFit text B u v p (Next c)

-- a plan gives what the rows give, and fits
pub record Carries (text : List ℕ) (B : List Word) (u v p : Word) (plan : Round Changes) (next : Rows.Next) : Type 0 where
  pub same : planned text u v p plan ≡ next
  pub fits : PlanFit text B u v p plan

-- a plan for u, v and p: it gives the round, and its changes fit
pub record PlansRound (text table : List ℕ) (n : ℕ) (u v p : Word) (plan : Round Changes) : Type 0 where
  pub same : planned text u v p plan ≡ round (words_in text table n) (family_by table n) u v p
  pub fits : PlanFit text (words_in text table n) u v p plan
