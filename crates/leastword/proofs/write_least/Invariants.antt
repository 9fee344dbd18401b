use Rattle.parts.specs.State.{weight}
use Rattle.leastword.proofs.Rounds.{Going}
use Rattle.leastword.proofs.write_least.Given as goal

abbrev pub invariant-loop-stage : goal.invariant-loop-stage
invariant-loop-stage l = Going l.words.text.now l.words.table.now l.words.n l.given l.fn.piece l.initial.out l.s l.out l.at

abbrev pub decreases-loop-stage : goal.decreases-loop-stage
decreases-loop-stage l = weight l.given l.s.word
