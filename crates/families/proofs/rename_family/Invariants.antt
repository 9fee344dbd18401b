use Rattle.families.proofs.Naming.{Renaming}
use Rattle.families.proofs.rename_family.Given as goal

abbrev pub invariant-loop-i : goal.invariant-loop-i
invariant-loop-i l = Renaming l.initial.table l.n l.low l.high l.i l.table
