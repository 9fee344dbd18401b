use Rattle.insertion.specs.Inserting.{Gathered}
use Rattle.listing.proofs.list_letter.Given as goal

abbrev pub invariant-loop-k : goal.invariant-loop-k
invariant-loop-k l = Gathered l.text l.initial.table l.n l.c l.from l.k l.table l.j
