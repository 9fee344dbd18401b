-- Row 2 by first letters alone: where no relation word begins with the first letter of u, u has no clean relation prefix.
use Prim.Native.Nat.{ℕ, ◌<◌}
use mathlib.Core.Bool.{true}
use mathlib.Core.List.{List}
use mathlib.Core.Path.{◌≡◌, sym, ◌∙◌}
use native.Mathlib.Omega.{arith}
use lib.ListN.{length, get_or}
use lib.Seq.{get_or-take}
use Rattle.words.specs.Words.{Word, is_prefix}
use Rattle.words.proofs.Tests.{false_of}
use Rattle.words.proofs.Searching.{least_none}
use Rattle.words.proofs.Prefixes.{prefix_at}
use Rattle.overlap.specs.Pieces.{word}
use Rattle.overlap.specs.Cuts.{xylen, xy_of}
use Rattle.overlap.proofs.Facts.{length_xy}
use Rattle.congruence.specs.Rows.{clean, clean_relation_prefix}
use Rattle.congruence.proofs.Heads.{Facts}
use Rattle.congruence.proofs.RowTests.{prefix_of_clean}

-- no relation word begins with the letter x
abbrev pub BeginsNone : List Word → ℕ → Type 0
BeginsNone B x = (i : ℕ) → i < length B → get_or (word B i) 0 0 ≡ x → ⊥

module _ (B : List Word) (R : Facts B) (u : Word) (none : BeginsNone B (get_or u 0 0)) where
  pub no_clean_prefix : clean_relation_prefix B u ≡ length B
  unfolding clean_relation_prefix
  no_clean_prefix = least_none (length B) (clean B u) (record { none = λ i h. false_of (clean B u i) (λ e. unclean i h (prefix_of_clean B u i e)) })
    where
      unclean : (i : ℕ) → i < length B → is_prefix (xy_of B i) u ≡ true → ⊥
      unclean i h e =
          let s = R.some i h in
          let l = length_xy B i in
          none i h (sym (get_or-take (xylen B i) (word B i) 0 0 (omega arith)) ∙ prefix_at (xy_of B i) u e 0 (omega arith))
