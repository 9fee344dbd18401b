use Rattle.writing.proofs.Loops.{Writing}
use Rattle.writing.proofs.put_bytes.Given as goal

abbrev pub invariant-loop-i : goal.invariant-loop-i
invariant-loop-i l = Writing l.s l.initial.out l.at l.i l.out
