use Rattle.joined.proofs.Laws.{Comparing}
use Rattle.joined.proofs.common_prefix_in.Given as goal

abbrev pub invariant-loop-i : goal.invariant-loop-i
invariant-loop-i l = Comparing l.text l.from l.to l.s l.q l.n l.i
