use Rattle.families.proofs.Linking.{Linking}
use Rattle.families.proofs.link_members.Given as goal

abbrev pub invariant-loop-i : goal.invariant-loop-i
invariant-loop-i l = Linking l.initial.table l.n l.i l.table
