use Rattle.loose.proofs.Lowest.{Seeking}
use Rattle.loose.proofs.lowest_loose.Given as goal

abbrev pub invariant-loop-i : goal.invariant-loop-i
invariant-loop-i l = Seeking l.longest l.table l.n l.i
