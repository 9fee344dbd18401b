use Rattle.words.proofs.Examples.{words_hold}
use Rattle.theorems.proofs.worked_words_hold.Goals as goal

pub returns : goal.returns
returns c = words_hold
