use Prim.Native.Nat.{◌-◌}
use Rattle.comparison.proofs.Laws.{Going}
use Rattle.comparison.proofs.make_rounds.Given as goal

abbrev pub invariant-loop-same : goal.invariant-loop-same
invariant-loop-same l = Going l.words.text.now l.words.table.now l.words.n l.first l.second l.fn.start l.budget l.s l.done

abbrev pub decreases-loop-same : goal.decreases-loop-same
decreases-loop-same l = l.budget - l.done
