-- A table whose index changes keeps its relation words and their positions.
use Prim.Native.Nat.{ℕ, ◌≤◌, ◌<◌}
use mathlib.Core.List.{List}
use mathlib.Core.Path.{◌≡◌, refl, ◌∙◌}
use native.Mathlib.Omega.{arith}
use lib.ListN.{set, length-set}
use lib.Seq.{get_or-set_other}
use Rattle.layout.specs.Places.{words_most, first_from, start_cell, end_cell}
use Rattle.layout.specs.Layout.{start_of, end_of, word_at, Laid}
use Rattle.layout.proofs.Placed.{laid_of_places}
use Rattle.insertion.specs.Inserting.{SamePositions}

pub kept_refl : (t : List ℕ) → SamePositions t t
kept_refl t = record { long = refl; same = λ i h. refl }

pub kept_trans : (t u v : List ℕ) → SamePositions t u → SamePositions u v → SamePositions t v
kept_trans t u v a b = record { long = b.long ∙ a.long; same = λ i h. b.same i h ∙ a.same i h }

pub kept_set : (t u : List ℕ) (p v : ℕ) → SamePositions t u → first_from ≤ p → SamePositions t (set u p v)
kept_set t u p v k h = record { long = length-set u p v ∙ k.long; same = λ i l. get_or-set_other u p i v 0 (λ e. omega arith) ∙ k.same i l }

module _ (t u : List ℕ) (g : SamePositions t u) where
  pub start_kept : (k : ℕ) → k ≤ words_most → start_of u k ≡ start_of t k
  start_kept k h = g.same (start_cell k) (omega arith)

  pub end_kept : (k : ℕ) → k < words_most → end_of u k ≡ end_of t k
  end_kept k h = g.same (end_cell k) (omega arith)

  pub word_kept : (text : List ℕ) (k : ℕ) → k < words_most → word_at text u k ≡ word_at text t k
  word_kept text k h = rw (start_kept k (omega arith), end_kept k h)

  pub laid_kept : (text : List ℕ) (n : ℕ) → Laid text t n → Laid text u n
  laid_kept text n l = laid_of_places text t u n (λ i h. start_kept i (omega (arith, l.few))) (λ i h. end_kept i (omega (arith, l.few))) g.long l
