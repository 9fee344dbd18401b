use Prim.Native.Nat.{◌-◌}
use lib.ListN.{length}
use Rattle.walks.proofs.Laws.{WalkAt}
use Rattle.walks.proofs.possible.Given as goal

abbrev pub invariant-loop-x : goal.invariant-loop-x
invariant-loop-x l = WalkAt l.words.text.now l.words.table.now l.words.n l.given l.at l.to l.from l.a l.b l.q

abbrev pub decreases-loop-x : goal.decreases-loop-x
decreases-loop-x l = length l.given - l.q
