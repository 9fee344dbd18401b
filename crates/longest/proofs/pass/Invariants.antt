use Rattle.longest.proofs.Passes.{Passing}
use Rattle.longest.proofs.pass.Given as goal

abbrev pub invariant-loop-q : goal.invariant-loop-q
invariant-loop-q l = Passing l.text l.initial.row l.x l.from l.to l.q l.row l.best
