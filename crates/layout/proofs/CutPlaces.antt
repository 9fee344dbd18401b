-- Where the cuts of a relation word lie: X, X with Y, and Z are the parts of the text that the table cuts; and what C(4) gives holds of checked words.
use Prim.Native.Nat.{ℕ, ◌+◌, ◌-◌, ◌≤◌, ◌<◌}
use mathlib.Core.List.{List}
use mathlib.Core.Path.{◌≡◌, ap, ◌∙◌}
use native.Mathlib.Omega.{arith}
use lib.ListN.{take, drop}
use Rattle.words.specs.Words.{part}
use Rattle.overlap.specs.Pieces.{word}
use Rattle.overlap.specs.Cuts.{xlen, xylen, x_of, xy_of, z_of}
use Rattle.overlap.proofs.Rigid.{Rigid}
use Rattle.overlap.proofs.Facts.{x_bound, z_bound, rigid_of_c4}
use Rattle.layout.specs.Layout.{start_of, x_end_of, z_start_of, end_of, Span, words_in, Laid, Cut, Checked}
use Rattle.words.proofs.Parts.{part_take, part_drop}
use Rattle.layout.proofs.Placed.{word_part, end_inside, word_length}

module _ (text table : List ℕ) (n : ℕ) (l : Laid text table n) (c : Cut text table n) (i : ℕ) (h : i < n) where
  -- the positions of the cuts lie in the word
  pub cuts_inside : (start_of table i ≤ x_end_of table i) × (x_end_of table i ≤ end_of table i) × (start_of table i ≤ z_start_of table i) × (z_start_of table i ≤ end_of table i)
  cuts_inside =
      let x = c.x_end i h in
      let z = c.z_start i h in
      let w = word_length text table n l i h in
      let s = l.some i h in
      let a = x_bound (words_in text table n) i in
      let b = z_bound (words_in text table n) i in
      omega (arith, x, z, w, s, a, b)

  pub xy_span : Span text (start_of table i) (z_start_of table i)
  xy_span =
      let e = end_inside text table n l i h in
      let p = cuts_inside in
      record { upwards = p.2; inside = omega (arith, e, p.3) }

  -- the lengths of X and of X with Y
  pub x_long : xlen (words_in text table n) i ≡ x_end_of table i - start_of table i
  x_long = let x = c.x_end i h in omega (arith, x)

  pub xy_long : xylen (words_in text table n) i ≡ z_start_of table i - start_of table i
  xy_long =
      let z = c.z_start i h in
      let w = word_length text table n l i h in
      omega (arith, z, w)

  -- a prefix of the word is a part of the text
  prefix_part : (b m : ℕ) → start_of table i ≤ b → b ≤ end_of table i → m ≡ b - start_of table i → take m (word (words_in text table n) i) ≡ part text (start_of table i) b
  prefix_part b m s g e =
      let d : start_of table i + m ≡ b = omega (arith, s, e) in
      ap (take m) (word_part text table n i h) ∙ part_take text (start_of table i) (end_of table i) m (omega (arith, g, e)) ∙ ap (part text (start_of table i)) d

  pub x_part : x_of (words_in text table n) i ≡ part text (start_of table i) (x_end_of table i)
  x_part = let p = cuts_inside in prefix_part (x_end_of table i) (xlen (words_in text table n) i) p.0 p.1 x_long

  pub xy_part : xy_of (words_in text table n) i ≡ part text (start_of table i) (z_start_of table i)
  xy_part = let p = cuts_inside in prefix_part (z_start_of table i) (xylen (words_in text table n) i) p.2 p.3 xy_long

  pub z_part : z_of (words_in text table n) i ≡ part text (z_start_of table i) (end_of table i)
  z_part =
      let p = cuts_inside in
      let m = xy_long in
      let d : start_of table i + xylen (words_in text table n) i ≡ z_start_of table i = omega (arith, p.2, m) in
      ap (drop (xylen (words_in text table n) i)) (word_part text table n i h)
      ∙ part_drop text (start_of table i) (end_of table i) (xylen (words_in text table n) i)
      ∙ ap (λ a. part text a (end_of table i)) d

pub checked_rigid : (text table : List ℕ) (n : ℕ) → Checked text table n → Rigid (words_in text table n) (xlen (words_in text table n)) (xylen (words_in text table n))
checked_rigid text table n c = rigid_of_c4 (words_in text table n) c.accepted
