use Rattle.laying.proofs.Finding.{Agreeing}
use Rattle.laying.proofs.have_same_letters.Given as goal

abbrev pub invariant-loop-k : goal.invariant-loop-k
invariant-loop-k l = Agreeing l.part l.word l.k
