use Rattle.joined.specs.Words.{word_of}
use Rattle.index.proofs.Seeking.{Seeking}
use Rattle.index.proofs.seek.Given as goal

abbrev pub invariant-loop-j : goal.invariant-loop-j
invariant-loop-j l = Seeking l.words.text.now l.words.table.now l.words.n (word_of l.word) l.q l.from l.to l.j l.m
