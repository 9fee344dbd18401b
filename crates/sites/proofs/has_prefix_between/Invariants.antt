use Rattle.joined.specs.Words.{word_of}
use Rattle.layout.specs.Views.{words_of}
use Rattle.sites.proofs.Laws.{Vacant}
use Rattle.sites.proofs.has_prefix_between.Given as goal

abbrev pub invariant-loop-q : goal.invariant-loop-q
invariant-loop-q l = Vacant (words_of l.words) (word_of l.word) l.lo l.q
