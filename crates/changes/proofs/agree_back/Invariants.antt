use Rattle.changes.proofs.CommonSuffixes.{Agreeing}
use Rattle.changes.proofs.agree_back.Given as goal

abbrev pub invariant-loop-l : goal.invariant-loop-l
invariant-loop-l l = Agreeing l.text l.x l.y l.room l.l
