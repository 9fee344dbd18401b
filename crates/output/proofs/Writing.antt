-- Laws of the code that writes the lines of refusals and of comparisons.
use Prim.Native.Nat.{ℕ, ◌+◌, ◌≤◌}
use mathlib.Core.List.{List}
use mathlib.Core.Path.{◌≡◌}
use borrow.Author.Rules.{rules}
use lib.ListN.{length}
use Rattle.std.specs.Prelude.{Result, Ok, Err}
use Rattle.refusals.specs.declared.Refusal.{Refusal}
use Rattle.refusals.specs.declared.Numbered.{Numbered}
use Rattle.refusals.specs.Refusals.{number_and_place}
use Rattle.asked.specs.declared.Comparison.{Comparison}
use Rattle.asked.specs.declared.Comparison.TheVariants.{Same, Different}
use Rattle.spelling.specs.Lines.{line_of, pair_line_of}
use Rattle.lines.specs.Lines.{WrittenTo}
use Rattle.output.specs.Program.{refused_text, same_text, different_text, refused_line, comparison_line}

-- a refusal, by its number and its place
module _ (out : List ℕ) (at : ℕ) (refusal : Refusal) (n : Numbered) (e : n ≡ number_and_place refusal) where
  pub refusal_room : at + length (refused_line refusal) ≤ length out → at + length (pair_line_of refused_text n.number n.place) ≤ length out
  unfolding refused_line
  refusal_room h = rw e h

  pub refusal_put : (after : List ℕ) (r : ℕ) → WrittenTo out at (pair_line_of refused_text n.number n.place) after r → WrittenTo out at (refused_line refusal) after r
  unfolding refused_line
  refusal_put after r h = rw (← e) h

pub ruleset refusals = (refusal_room, refusal_put, rules)

-- a comparison, by its case
module _ (out : List ℕ) (at : ℕ) (c : Result Comparison Refusal) where
  module _ (n : ℕ) where
    pub same_room : c ≡ Ok (Same n) → at + length (comparison_line c) ≤ length out → at + length (line_of same_text n) ≤ length out
    same_room e h = rw e at h

    pub same_put : c ≡ Ok (Same n) → (after : List ℕ) (r : ℕ) → WrittenTo out at (line_of same_text n) after r → WrittenTo out at (comparison_line c) after r
    same_put e after r h = rw e h

    pub different_room : c ≡ Ok (Different n) → at + length (comparison_line c) ≤ length out → at + length (line_of different_text n) ≤ length out
    different_room e h = rw e at h

    pub different_put : c ≡ Ok (Different n) → (after : List ℕ) (r : ℕ) → WrittenTo out at (line_of different_text n) after r → WrittenTo out at (comparison_line c) after r
    different_put e after r h = rw e h

  module _ (x : Refusal) (e : c ≡ Err x) where
    pub refused_room : at + length (comparison_line c) ≤ length out → at + length (refused_line x) ≤ length out
    refused_room h = rw e at h

    pub refused_put : (after : List ℕ) (r : ℕ) → WrittenTo out at (refused_line x) after r → WrittenTo out at (comparison_line c) after r
    refused_put after r h = rw e h

pub ruleset comparisons = (same_room, same_put, different_room, different_put, refused_room, refused_put, rules)
