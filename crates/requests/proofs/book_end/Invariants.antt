use Rattle.std.proofs.Common.{◌-◌, length}
use Rattle.output.proofs.Reading.{Ending}
use Rattle.requests.proofs.book_end.Given as goal

abbrev pub invariant-loop-at : goal.invariant-loop-at
invariant-loop-at l = Ending l.input l.at

abbrev pub decreases-loop-at : goal.decreases-loop-at
decreases-loop-at l = length l.input - l.at
