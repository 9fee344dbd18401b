-- The first row from row 4 on, by the sites of a relation word and of the member of its family that v begins with, is the first row that fits by the words.
use Prim.Native.Nat.{ℕ}
use mathlib.Core.Bool.{Bool, true, false, ◌&&◌, not}
use mathlib.Core.List.{List}
use mathlib.Core.Logic.{by_cases}
use mathlib.Core.Path.{◌≡◌, refl, sym, ap, ◌∙◌}
use native.Mathlib.Decide.{ℕ_discrete}
use borrow.Author.Tests.{eq-eqb, ne_eqb}
use lib.Dec.{eqb}
use lib.ListN.{drop}
use Rattle.words.specs.Words.{Word, is_prefix}
use Rattle.words.proofs.Tests.{false_of}
use Rattle.overlap.specs.Pieces.{word}
use Rattle.overlap.specs.Cuts.{xylen, xy_of, z_of}
use Rattle.congruence.specs.Rows.{choose}
use Rattle.congruence.proofs.Heads.{Facts}
use Rattle.congruence.proofs.RowTests.{one_prefix, prefix_of_clean}
use Rattle.congruence.proofs.FirstRow.{CleanPrefix, Member, prefix_whole}
use Rattle.sites.specs.declared.Site.{Site}
use Rattle.sites.proofs.Sites.{Lies}
use Rattle.rows.specs.Shapes.{row_by, shaped_row}

-- rows 4 to 8 by three tests, in the order of the rows
row_tests : (a b c : Bool) → choose (a && b) (λ _. 4) (λ _. choose c (λ _. 5) (λ _. choose (not a && b) (λ _. 6) (λ _. choose (a && not b) (λ _. 7) (λ _. 8)))) ≡ row_by a b c
unfolding row_by
row_tests true true c = refl
row_tests true false true = refl
row_tests true false false = refl
row_tests false true true = refl
row_tests false true false = refl
row_tests false false true = refl
row_tests false false false = refl

module _ (B : List Word) (R : Facts B) (family : ℕ → ℕ) (i j : ℕ) (u v : Word) (c : CleanPrefix B u i) (m : Member B family v i j) where
  -- all of a relation word begins a word where its Z follows its X and Y
  whole_own : is_prefix (word B i) u ≡ is_prefix (z_of B i) (drop (xylen B i) u)
  whole_own = prefix_whole B i u ∙ rw (prefix_of_clean B u i c.clean)

  whole_member : is_prefix (word B j) v ≡ is_prefix (z_of B j) (drop (xylen B j) v)
  whole_member = prefix_whole B j v ∙ rw m.begins

  -- v begins with X and Y of i only where i is the member
  own_in_v : is_prefix (xy_of B i) v ≡ eqb i j
  own_in_v = by_cases (ℕ_discrete i j)
      (λ e. ap (λ k. is_prefix (xy_of B k) v) e ∙ m.begins ∙ sym (eq-eqb i j e))
      (λ e. false_of (is_prefix (xy_of B i) v) (λ t. e (one_prefix R v i j c.there m.there t m.begins)) ∙ sym (ne_eqb i j e))

  pub shaped : (text : List ℕ) (s t : Site) → Lies text B i s → Lies text B j t
      → shaped_row text s t (eqb i j) u v ≡ choose (is_prefix (word B i) u && is_prefix (word B j) v) (λ _. 4) (λ _. choose (is_prefix (xy_of B i) v) (λ _. 5) (λ _.
      choose (not (is_prefix (z_of B i) (drop (xylen B i) u)) && is_prefix (word B j) v) (λ _. 6) (λ _.
      choose (is_prefix (word B i) u && not (is_prefix (z_of B j) (drop (xylen B j) v))) (λ _. 7) (λ _. 8))))
  unfolding shaped_row
  shaped text s t li lj =
      rw (← li.z, ← lj.z, ← li.long_xy, ← lj.long_xy, whole_own, whole_member, own_in_v)
      (sym (row_tests (is_prefix (z_of B i) (drop (xylen B i) u)) (is_prefix (z_of B j) (drop (xylen B j) v)) (eqb i j)))
