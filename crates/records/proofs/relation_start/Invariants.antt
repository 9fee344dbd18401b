use Rattle.records.proofs.Starts.{Walked}
use Rattle.records.proofs.relation_start.Given as goal

abbrev pub invariant-loop : goal.invariant-loop
invariant-loop l = Walked l.book l.k l.at l.counter
