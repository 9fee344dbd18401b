use Rattle.longest.proofs.Passes.{Tabling}
use Rattle.longest.proofs.fill_longest.Given as goal

abbrev pub invariant-loop-p : goal.invariant-loop-p
invariant-loop-p l = Tabling l.text l.initial.longest l.row l.p l.longest
