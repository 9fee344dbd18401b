-- Where relation words lie in the text of a checked presentation.
use Rattle.std.specs.Prelude.{ℕ, ◌≤◌, ◌<◌, List, length}
use Rattle.layout.specs.Layout.{start_of, x_end_of, z_start_of, end_of, Checked}
use Rattle.sites.specs.declared.Site.{Site}

-- the positions of relation word i
unfoldable pub site_of : List ℕ → ℕ → Site
site_of table i = record { start = start_of table i; middle = x_end_of table i; tail = z_start_of table i; stop = end_of table i }

-- the positions of a site go up, and lie in the text
pub record SiteInText (text : List ℕ) (s : Site) : Type 0 where
  pub first : s.start ≤ s.middle
  pub second : s.middle < s.tail
  pub third : s.tail ≤ s.stop
  pub inside : s.stop ≤ length text

-- the sites of two relation words lie in the text
pub record SitesInText (text : List ℕ) (s t : Site) : Type 0 where
  pub own : SiteInText text s
  pub other : SiteInText text t

-- relation word i of a checked presentation
pub record KnownWord (text table : List ℕ) (n i : ℕ) : Type 0 where
  pub checked : Checked text table n
  pub there : i < n
