use Rattle.insertion.proofs.Inserting.{Shifting}
use Rattle.insertion.proofs.insert.Given as goal

abbrev pub invariant-loop-i : goal.invariant-loop-i
invariant-loop-i l = Shifting l.text l.initial.table l.table l.n l.c l.from l.j l.k l.i

abbrev pub decreases-loop-i : goal.decreases-loop-i
decreases-loop-i l = l.i
