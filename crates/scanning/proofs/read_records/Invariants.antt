use Rattle.std.proofs.Common.{◌-◌, length}
use Rattle.scanning.proofs.Records.{Going}
use Rattle.scanning.proofs.read_records.Given as goal

abbrev pub invariant-loop-at : goal.invariant-loop-at
invariant-loop-at l = Going l.book l.head.letters l.at l.count

abbrev pub decreases-loop-at : goal.decreases-loop-at
decreases-loop-at l = length l.book - l.at
