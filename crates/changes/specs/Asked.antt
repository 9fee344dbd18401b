-- What the functions ask that make the parts of a plan, and what the count of common letters promises.
use Rattle.std.specs.Prelude.{ℕ, ◌+◌, ◌-◌, ◌≤◌, ◌<◌, List, ◌≡◌, length, get_or}
use Rattle.sites.specs.declared.Site.{Site}
use Rattle.sites.specs.Sites.{SiteInText}

-- `room` letters lie before x and before y
pub record BackRoom (text : List ℕ) (x y room : ℕ) : Type 0 where
  pub inside_x : x ≤ length text
  pub inside_y : y ≤ length text
  pub far_x : room ≤ x
  pub far_y : room ≤ y

-- of the letters before x and before y, at most `room`, the nearest l agree, and no more
pub record AgreeBack (text : List ℕ) (x y room l : ℕ) : Type 0 where
  pub within : l ≤ room
  pub at : (k : ℕ) → k < l → get_or text (x - 1 - k) 0 ≡ get_or text (y - 1 - k) 0
  pub apart : l < room → get_or text (x - 1 - l) 0 ≡ get_or text (y - 1 - l) 0 → ⊥

-- the positions of two sites go up
pub record SitesUpwards (s t : Site) : Type 0 where
  pub own_xy : s.start ≤ s.tail
  pub own : s.start ≤ s.stop
  pub other_xy : t.start ≤ t.tail
  pub other : t.start ≤ t.stop

-- the Z at s has l letters, and lies in the text
pub record TailHas (text : List ℕ) (s : Site) (l : ℕ) : Type 0 where
  pub site : SiteInText text s
  pub lies : l ≤ s.stop - s.tail

-- both relation words have l letters
pub record SitesHave (s t : Site) (l : ℕ) : Type 0 where
  pub own : s.start + l ≤ s.stop
  pub other : t.start + l ≤ t.stop
