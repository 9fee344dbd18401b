use Rattle.listing.proofs.Making.{Sharing}
use Rattle.listing.proofs.write_shared.Given as goal

abbrev pub invariant-loop-j : goal.invariant-loop-j
invariant-loop-j l = Sharing l.text l.initial.table l.table l.n l.j
