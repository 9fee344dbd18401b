use Prim.Native.Nat.{◌-◌}
use Rattle.members.proofs.Choosing.{Idle}
use Rattle.members.proofs.other_carrier.Given as goal

abbrev pub invariant-loop-c : goal.invariant-loop-c
invariant-loop-c l = Idle l.words.text.now l.words.table.now l.words.n l.given l.i l.j l.k l.c

abbrev pub decreases-loop-c : goal.decreases-loop-c
decreases-loop-c l = l.words.n - l.c
