use Rattle.listing.proofs.Making.{Listed}
use Rattle.listing.proofs.list_all.Given as goal

abbrev pub invariant-loop-c : goal.invariant-loop-c
invariant-loop-c l = Listed l.text l.initial.table l.table l.n l.c l.j
