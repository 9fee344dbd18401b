-- A table whose index changes keeps its list of relation words, their cuts and their numbers of pieces.
use Prim.Native.Nat.{ℕ, ◌≤◌}
use mathlib.Core.List.{List}
use mathlib.Core.Path.{◌≡◌, sym, ◌∙◌, subst}
use native.Mathlib.Omega.{arith}
use Rattle.layout.specs.Places.{words_most, x_end_cell, z_start_cell, pieces_cell}
use Rattle.layout.specs.Layout.{words_in, Laid, Cut, Checked}
use Rattle.overlap.specs.Pieces.{C4}
use Rattle.layout.proofs.Placed.{words_of_places}
use Rattle.insertion.specs.Inserting.{SamePositions}
use Rattle.insertion.proofs.Keeping.{start_kept, end_kept, laid_kept}
use Rattle.listing.specs.Listing.{IndexMade}

module _ (t u : List ℕ) (g : SamePositions t u) where
  pub words_kept : (text : List ℕ) (n : ℕ) → n ≤ words_most → words_in text u n ≡ words_in text t n
  words_kept text n f = words_of_places text t u n (λ i h. start_kept t u g i (omega arith)) (λ i h. end_kept t u g i (omega arith))

  pub cut_kept : (text : List ℕ) (n : ℕ) → n ≤ words_most → Cut text t n → Cut text u n
  cut_kept text n f c =
      record {
        x_end = λ i h. rw (words_kept text n f, start_kept t u g i (omega arith)) (g.same (x_end_cell i) (omega arith) ∙ c.x_end i h);
        z_start = λ i h. rw (words_kept text n f, end_kept t u g i (omega arith), g.same (z_start_cell i) (omega arith)) (c.z_start i h);
        pieces = λ i h. rw (words_kept text n f) (g.same (pieces_cell i) (omega arith) ∙ c.pieces i h);
      }

-- a book whose words are laid out, accepted and cut is ready for rounds once its index is made
pub made_checked : (text t : List ℕ) (n : ℕ) (u : List ℕ) → Laid text t n → C4 (words_in text t n) → Cut text t n → IndexMade text t n u → Checked text u n
made_checked text t n u l a c m =
    record {
      laid = laid_kept t u m.kept text n l;
      accepted = subst C4 (sym (words_kept t u m.kept text n l.few)) a;
      cut = cut_kept t u m.kept text n l.few c;
      indexed = m.indexed;
    }
