use Rattle.presentation.proofs.Checking.{Siding}
use Rattle.presentation.proofs.first_side.Given as goal

abbrev pub invariant-loop-s : goal.invariant-loop-s
invariant-loop-s l = Siding l.table l.sides l.word l.s
