use Rattle.cuts.proofs.Cutting.{Cutting}
use Rattle.cuts.proofs.cut.Given as goal

abbrev pub invariant-loop-i : goal.invariant-loop-i
invariant-loop-i l = Cutting l.longest l.initial.table l.n l.i l.table
