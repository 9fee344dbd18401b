use Rattle.laying.proofs.Finding.{Finding}
use Rattle.laying.proofs.find_word.Given as goal

abbrev pub invariant-loop-i : goal.invariant-loop-i
invariant-loop-i l = Finding l.word l.text l.table l.n l.i
