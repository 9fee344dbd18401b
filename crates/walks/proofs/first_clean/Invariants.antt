use Rattle.walks.proofs.Laws.{Seeking}
use Rattle.walks.proofs.first_clean.Given as goal

abbrev pub invariant-loop-q : goal.invariant-loop-q
invariant-loop-q l = Seeking l.words.text.now l.words.table.now l.words.n l.given l.from l.to l.q
