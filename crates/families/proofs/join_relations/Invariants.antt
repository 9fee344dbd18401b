use Rattle.families.proofs.Joining.{Gathering}
use Rattle.families.proofs.join_relations.Given as goal

abbrev pub invariant-loop-r : goal.invariant-loop-r
invariant-loop-r l = Gathering l.initial.table l.n l.relations l.r l.table
