use Rattle.std.proofs.Common.{◌≤◌, length}
use Rattle.cases.proofs.answer_input.Given as goal

abbrev pub invariant-loop : goal.invariant-loop
invariant-loop g l = l.kept ≤ length l.buffer
