use Rattle.loose.proofs.Loose.{Outer, Inner}
use Rattle.loose.proofs.three_pieces.Given as goal

abbrev pub invariant-loop-j : goal.invariant-loop-j
invariant-loop-j l = Inner l.longest l.start l.n l.i l.j l.found

abbrev pub invariant-outer : goal.invariant-outer
invariant-outer l = Outer l.longest l.start l.n l.i l.found
