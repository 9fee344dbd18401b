use Rattle.words.proofs.Distinct.{distinct_right}
use Rattle.theorems.proofs.distinct_words_are_right.Goals as goal

pub returns : goal.returns
returns c = distinct_right
