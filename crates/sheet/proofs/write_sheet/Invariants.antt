use Rattle.sheet.proofs.Laws.{Sheeted}
use Rattle.sheet.proofs.write_sheet.Given as goal

abbrev pub invariant-loop-s : goal.invariant-loop-s
invariant-loop-s l = Sheeted l.table l.m l.initial.sheet l.s l.sheet
