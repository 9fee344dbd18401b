-- What the program writes lies in its buffer.
use Prim.Native.Nat.{ℕ, ◌≤◌}
use mathlib.Core.Bool.{Bool, true, false}
use mathlib.Core.List.{List}
use mathlib.Core.Path.{◌≡◌, refl, sym, ap}
use native.Mathlib.Omega.{arith}
use lib.Dec.{ltb}
use lib.ListN.{length, take, drop, length-append}
use lib.Seq.{length-take-le}
use Rattle.output.specs.Program.{program_of}
use Rattle.output.specs.Size.{output_most}
use Rattle.words.specs.Writing.{over}
use Rattle.answers.specs.Answers.{wrote}
use Rattle.answers.specs.Entries.{OutputOutcome, output_of}

module _ (input old b : List ℕ) (n : ℕ) (written : OutputOutcome.after (wrote n) b ≡ output_of input old) where
  pub written_within : n ≤ length b
  unfolding output_of
  written_within = go (ltb (length old) output_most) refl
    where
      go : (t : Bool) → ltb (length old) output_most ≡ t → n ≤ length b
      go true f = let h = rw f at written in absurd (let z : ◌≡◌ {A = ℕ} 0 1 = cc in omega arith)
      go false f =
          let h = rw f at written in
          let l : n ≡ length (program_of input) = cc in
          let k : b ≡ over (program_of input) old = cc in
          omega (arith, ap length k, length-append (program_of input) (drop (length (program_of input)) old))

  pub written_long : n ≡ length (take n b)
  written_long = sym (length-take-le n b written_within)
