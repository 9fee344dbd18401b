use Prim.Native.Nat.{◌-◌}
use Rattle.products.proofs.Numbering.{Numbering}
use Rattle.products.proofs.number_from.Given as goal

abbrev pub invariant-loop-a : goal.invariant-loop-a
invariant-loop-a l = Numbering l.longest l.start l.n l.a l.count

abbrev pub decreases-loop-a : goal.decreases-loop-a
decreases-loop-a l = l.n - l.a
