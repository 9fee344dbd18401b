use Prim.Native.Nat.{◌-◌}
use Rattle.kin.proofs.Tails.{Quiet}
use Rattle.kin.proofs.first_active.Given as goal

abbrev pub invariant-loop-member : goal.invariant-loop-member
invariant-loop-member l = Quiet l.words.text.now l.words.table.now l.words.n l.given l.i l.k l.member

abbrev pub decreases-loop-member : goal.decreases-loop-member
decreases-loop-member l = l.words.n - l.member
