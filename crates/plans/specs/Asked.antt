-- What the decision of a round asks, and the functions that make a row's plan.
use Rattle.std.specs.Prelude.{ℕ, ◌-◌, ◌≤◌, ◌<◌, true, List, ◌++◌, ◌≡◌, length}
use Rattle.words.specs.Words.{Word, is_prefix}
use Rattle.overlap.specs.Pieces.{word}
use Rattle.congruence.specs.NoRelationPrefix.{NoRelationPrefix}
use Rattle.layout.specs.Layout.{words_in}
use Rattle.layout.specs.Families.{Grouped, GroupedWord}
use Rattle.sites.specs.declared.Site.{Site}
use Rattle.sites.specs.Sites.{site_of}
use Rattle.changes.specs.Asked.{TailHas}

-- a checked presentation with families, and the head part of u, in which no X and Y stands
pub record HeadClear (text table : List ℕ) (n : ℕ) (ua : Word) : Type 0 where
  pub grouped : Grouped text table n
  pub clear : NoRelationPrefix (words_in text table n) ua

-- u and v are not empty
pub record BothNonEmpty (u v : Word) : Type 0 where
  pub some_u : 0 < length u
  pub some_v : 0 < length v

-- relation word i lies at s and begins u, which is two slices, and reaches past the first of them; t is a site
pub record WholeWords (text table : List ℕ) (n i : ℕ) (s t : Site) (ua ub : Word) : Type 0 where
  pub known : GroupedWord text table n i
  pub at : s ≡ site_of table i
  pub begins : is_prefix (word (words_in text table n) i) (ua ++ ub) ≡ true
  pub own : s.start ≤ s.stop
  pub member : t.start ≤ t.stop
  pub past : length ua ≤ s.stop - s.start
  pub within : s.stop - s.start - length ua ≤ length ub

-- both Z have l letters, and lie in the text
pub record TailsHave (text : List ℕ) (s t : Site) (l : ℕ) : Type 0 where
  pub own : TailHas text s l
  pub other : TailHas text t l
