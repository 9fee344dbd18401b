-- Where a relation word lies in the text: its parts X, XY and Z are the parts of the text that the table cuts.
use Prim.Native.Nat.{ℕ, ◌+◌, ◌-◌, ◌≤◌, ◌<◌}
use mathlib.Core.List.{List}
use mathlib.Core.Path.{◌≡◌}
use native.Mathlib.Omega.{arith}
use lib.ListN.{length}
use Rattle.words.specs.Words.{Word, part}
use Rattle.overlap.specs.Pieces.{word}
use Rattle.overlap.specs.Cuts.{len, xlen, xylen, x_of, xy_of, z_of}
use Rattle.overlap.proofs.Facts.{rigid_of_c4}
use Rattle.layout.specs.Layout.{words_in, Checked}
use Rattle.layout.proofs.Placed.{words_length, word_part, end_inside, word_length}
use Rattle.layout.proofs.CutPlaces.{cuts_inside, x_long, xy_long, x_part, xy_part, z_part}
use Rattle.sites.specs.declared.Site.{Site}
use Rattle.sites.specs.Sites.{site_of, SiteInText}

-- relation word i lies in the text at the site s
pub record Lies (text : List ℕ) (B : List Word) (i : ℕ) (s : Site) : Type 0 where
  pub known : i < length B
  pub first : s.start ≤ s.middle
  pub second : s.middle < s.tail
  pub third : s.tail ≤ s.stop
  pub inside : s.stop ≤ length text
  pub short : s.stop ≤ s.start + 64
  pub whole : word B i ≡ part text s.start s.stop
  pub x : x_of B i ≡ part text s.start s.middle
  pub xy : xy_of B i ≡ part text s.start s.tail
  pub z : z_of B i ≡ part text s.tail s.stop
  pub long : len B i ≡ s.stop - s.start
  pub long_xy : xylen B i ≡ s.tail - s.start
  pub long_x : xlen B i ≡ s.middle - s.start

pub lies : (text table : List ℕ) (n : ℕ) → Checked text table n → (i : ℕ) → i < n → Lies text (words_in text table n) i (site_of table i)
unfolding site_of
lies text table n c i h =
    let B = words_in text table n in
    let n_b = words_length text table n in
    let k : i < length B = omega (arith, h, n_b) in
    let l = c.laid in
    let e = end_inside text table n l i h in
    let p = cuts_inside text table n l c.cut i h in
    let lx = x_long text table n l c.cut i h in
    let lxy = xy_long text table n l c.cut i h in
    let y = (rigid_of_c4 B c.accepted).some i k in
    record {
      known = k;
      first = p.0;
      second = omega (arith, p.0, p.2, lx, lxy, y);
      third = p.3;
      inside = omega (arith, e);
      short = l.short i h;
      whole = word_part text table n i h;
      x = x_part text table n l c.cut i h;
      xy = xy_part text table n l c.cut i h;
      z = z_part text table n l c.cut i h;
      long = word_length text table n l i h;
      long_xy = lxy;
      long_x = lx;
    }

-- where a relation word lies its positions go up, and lie in the text
pub site_in_text : (text : List ℕ) (B : List Word) (i : ℕ) (s : Site) → Lies text B i s → SiteInText text s
site_in_text text B i s l = record { first = l.first; second = l.second; third = l.third; inside = l.inside }
