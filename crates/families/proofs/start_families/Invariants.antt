use Rattle.families.proofs.Naming.{Starting}
use Rattle.families.proofs.start_families.Given as goal

abbrev pub invariant-loop-i : goal.invariant-loop-i
invariant-loop-i l = Starting l.initial.table l.n l.i l.table
