-- A table in which only families have changed: relation words, cuts, numbers of pieces, index, sides and the number of words are read as before.
use Prim.Native.Nat.{ℕ, ◌+◌, ◌-◌, ◌≤◌, ◌<◌}
use mathlib.Core.List.{List}
use mathlib.Core.Path.{◌≡◌, sym, ◌∙◌, subst}
use native.Mathlib.Omega.{arith}
use lib.ListN.{get_or}
use Rattle.overlap.specs.Pieces.{C4}
use Rattle.layout.specs.Places.{words_most, start_cell, x_end_cell, z_start_cell, end_cell, pieces_cell, count_cell, family_from, first_from, first_cell, order_cell, shared_cell}
use Rattle.layout.specs.Layout.{start_of, end_of, word_at, words_in, Laid, Cut, first_of, order_of, Indexed, Checked}
use Rattle.layout.specs.Families.{sides_in, count_of, Grouped}
use Rattle.layout.proofs.Placed.{words_of_places, laid_of_places}
use Rattle.layout.proofs.Cells.{sides_same}
use Rattle.families.specs.Joining.{KeptOutside}
use Rattle.families.specs.Grouping.{GroupsMade}

module _ (t u : List ℕ) (g : KeptOutside family_from first_from t u) where
  start_kept : (i : ℕ) → i ≤ words_most → start_of u i ≡ start_of t i
  start_kept i h = g.before (start_cell i) (omega (arith, h))

  end_kept : (i : ℕ) → i < words_most → end_of u i ≡ end_of t i
  end_kept i h = g.before (end_cell i) (omega (arith, h))

  pub count_kept : count_of u ≡ count_of t
  count_kept = g.before count_cell (omega arith)

  pub sides_kept : (m : ℕ) → m ≤ words_most → sides_in u m ≡ sides_in t m
  sides_kept m h = sides_same t u m (λ k a b. g.before k (omega (arith, b, h)))

  module _ (text : List ℕ) (n : ℕ) (f : Laid text t n) where
    pub words_kept : words_in text u n ≡ words_in text t n
    words_kept = words_of_places text t u n (λ i h. start_kept i (omega (arith, h, f.few))) (λ i h. end_kept i (omega (arith, h, f.few)))

    laid_kept : Laid text u n
    laid_kept = laid_of_places text t u n (λ i h. start_kept i (omega (arith, h, f.few))) (λ i h. end_kept i (omega (arith, h, f.few))) g.long f

    cut_kept : Cut text t n → Cut text u n
    cut_kept c =
        let few = f.few in
        record {
          x_end = λ i h. rw (words_kept, start_kept i (omega (arith, h, few))) (g.before (x_end_cell i) (omega (arith, h, few)) ∙ c.x_end i h);
          z_start = λ i h. rw (words_kept, end_kept i (omega (arith, h, few)), g.before (z_start_cell i) (omega (arith, h, few))) (c.z_start i h);
          pieces = λ i h. rw words_kept (g.before (pieces_cell i) (omega (arith, h, few)) ∙ c.pieces i h);
        }

    word_kept : (i : ℕ) → i < n → word_at text u i ≡ word_at text t i
    word_kept i h = rw (start_kept i (omega (arith, h, f.few)), end_kept i (omega (arith, h, f.few)))

    first_kept : (c : ℕ) → first_of u c ≡ first_of t c
    first_kept c = g.behind (first_cell c) (omega arith)

    order_kept : (j : ℕ) → order_of u j ≡ order_of t j
    order_kept j = g.behind (order_cell j) (omega arith)

    -- the index stands behind the families
    indexed_kept : Indexed text t n → Indexed text u n
    indexed_kept x =
        record {
          room = g.long ∙ x.room;
          listed = λ c h. rw (first_kept c, first_kept (c + 1)) (x.listed c h);
          known = λ j h. rw (order_kept j) (x.known j h);
          found = λ k h.
              let (j, a, b, e) = x.found k h in
              let s = start_kept k (omega (arith, h, f.few)) in
              (j, rw (s, first_kept (get_or text (start_of t k) 0)) a, rw (s, first_kept (get_or text (start_of t k) 0 + 1)) b, order_kept j ∙ e);
          alike = λ j h l.
              rw (order_kept (j - 1), order_kept j, word_kept (order_of t (j - 1)) (x.known (j - 1) (omega (arith, l))), word_kept (order_of t j) (x.known j l))
              (g.behind (shared_cell j) (omega arith) ∙ x.alike j h l);
        }

-- a checked presentation with its families is ready for rounds
pub made_grouped : (text t : List ℕ) (n relations : ℕ) (u : List ℕ) → Checked text t n → GroupsMade t n relations u → Grouped text u n
made_grouped text t n relations u c m =
    let k = m.kept in
    let f = c.laid in
    record {
      checked = record {
        laid = laid_kept t u k text n f;
        accepted = subst C4 (sym (words_kept t u k text n f)) c.accepted;
        cut = cut_kept t u k text n f c.cut;
        indexed = indexed_kept t u k text n f c.indexed;
      };
      linked = m.linked;
    }
