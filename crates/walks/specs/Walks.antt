-- A walk along the rest of the given word: the first place with a clean relation prefix, and what one leg of the walk tells.
use Rattle.std.specs.Prelude.{ℕ, ◌-◌, ◌≤◌, ◌<◌, Bool, true, false, List, ◌≡◌, length, drop}
use Rattle.words.specs.Words.{Word, is_prefix, common_prefix, part}
use Rattle.congruence.specs.Rows.{clean_relation_prefix}
use Rattle.least.specs.Possible.{possible}
use Rattle.layout.specs.Layout.{Span, words_in, Checked}
use Rattle.layout.specs.Families.{family_by, Ready}
use Rattle.walks.specs.declared.Leg.{Leg}
use Rattle.walks.specs.declared.Leg.TheVariants as Legs

-- a place of the given word, under a checked presentation
pub record PlaceAsked (text table : List ℕ) (n : ℕ) (given : Word) (q : ℕ) : Type 0 where
  pub checked : Checked text table n
  pub within : q ≤ length given

-- places of the given word, under a checked presentation
pub record PlacesAsked (text table : List ℕ) (n : ℕ) (given : Word) (from to : ℕ) : Type 0 where
  pub checked : Checked text table n
  pub up : from ≤ to
  pub within : to ≤ length given

-- q is the first place from `from` on and below `to` at which w has a clean relation prefix, or `to`
pub record FirstClean (B : List Word) (w : Word) (from to q : ℕ) : Type 0 where
  pub low : from ≤ q
  pub high : q ≤ to
  pub none : (k : ℕ) → from ≤ k → k < q → length B ≤ clean_relation_prefix B (drop k w)
  pub some : q < to → clean_relation_prefix B (drop q w) < length B

-- a mark, text[at..to], and the given word from `from` on, whose places are small: 65536 is no limit of the papers and only keeps sums in range
pub record Walking (text table : List ℕ) (n : ℕ) (given : Word) (at to from : ℕ) : Type 0 where
  pub ready : Ready text table n
  pub short : length given ≤ 65536
  pub span : Span text at to
  pub within : from ≤ length given

-- a mark that the word does not begin with, and the word has a clean relation prefix
pub record Turning (text table : List ℕ) (n : ℕ) (given : Word) (at to from : ℕ) : Type 0 where
  pub walking : Walking text table n given at to from
  pub apart : is_prefix (part text at to) (drop from given) ≡ false
  pub clean : clean_relation_prefix (words_in text table n) (drop from given) < length (words_in text table n)

-- a mark and a word that have m letters in common and then part, or the word ends
pub record Parting (text table : List ℕ) (n : ℕ) (given : Word) (at to from m : ℕ) : Type 0 where
  pub walking : Walking text table n given at to from
  pub common : m ≡ common_prefix (part text at to) (drop from given)
  pub some : m ≡ to - at → ⊥

-- what a leg tells: that the mark is possible, that it is not, or that another mark has to be possible further on
abbrev pub leg_possible : List ℕ → List Word → (ℕ → ℕ) → Word → Leg → Bool
leg_possible text B family given Legs.Yes = true
leg_possible text B family given Legs.No = false
leg_possible text B family given (Legs.Next at to from) = possible B family (part text at to) (drop from given)

-- a leg that began at place q ends further on, in the given word
pub record Further (text : List ℕ) (given : Word) (q at to from : ℕ) : Type 0 where
  pub span : Span text at to
  pub later : q < from
  pub within : from ≤ length given

abbrev pub LegStands : List ℕ → Word → ℕ → Leg → Type 0
LegStands text given q Legs.Yes = Unit {0}
LegStands text given q Legs.No = Unit {0}
LegStands text given q (Legs.Next at to from) = Further text given q at to from

-- one leg of the walk with the mark text[at..to] along the given word from `from` on
pub record LegMade (text table : List ℕ) (n : ℕ) (given : Word) (at to from : ℕ) (leg : Leg) : Type 0 where
  pub same : leg_possible text (words_in text table n) (family_by table n) given leg ≡ possible (words_in text table n) (family_by table n) (part text at to) (drop from given)
  pub stands : LegStands text given from leg
