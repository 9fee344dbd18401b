use Rattle.std.proofs.Common.{◌≤◌, length, ◌-◌}
use Rattle.rooms.proofs.read_behind.Given as goal

abbrev pub invariant-loop-had : goal.invariant-loop-had
invariant-loop-had g l = (l.initial.had ≤ l.had) × (l.had ≤ length l.buffer)

abbrev pub decreases-loop-had : goal.decreases-loop-had
decreases-loop-had g l = length l.buffer - l.had
