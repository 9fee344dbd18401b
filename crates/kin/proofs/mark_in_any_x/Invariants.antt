use Prim.Native.Nat.{◌-◌}
use Rattle.kin.proofs.Laws.{Unmarked}
use Rattle.kin.proofs.mark_in_any_x.Given as goal

abbrev pub invariant-loop-j : goal.invariant-loop-j
invariant-loop-j l = Unmarked l.words.text.now l.words.table.now l.words.n l.i l.p l.j

abbrev pub decreases-loop-j : goal.decreases-loop-j
decreases-loop-j l = l.words.n - l.j
