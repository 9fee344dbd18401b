use Rattle.cuts.proofs.Cutting.{Tailing}
use Rattle.cuts.proofs.tail_start.Given as goal

abbrev pub invariant-loop-a : goal.invariant-loop-a
invariant-loop-a l = Tailing l.longest l.start l.n l.a
