use Prim.Native.Nat.{◌-◌}
use Rattle.words.specs.Words.{part}
use Rattle.layout.specs.Views.{words_of}
use Rattle.members.proofs.Best.{BestSoFar}
use Rattle.members.proofs.first_member.Given as goal

abbrev pub invariant-loop-j : goal.invariant-loop-j
invariant-loop-j l = BestSoFar (words_of l.words) l.words.table.now l.words.n l.i (part l.words.text.now l.at l.to) l.best l.j

abbrev pub decreases-loop-j : goal.decreases-loop-j
decreases-loop-j l = l.words.n - l.j
