use Rattle.occurrence.proofs.Laws.{Seeking}
use Rattle.occurrence.proofs.first_place.Given as goal

abbrev pub invariant-loop-q : goal.invariant-loop-q
invariant-loop-q l = Seeking l.text l.p l.q
