use Rattle.least.proofs.Theorem.{least_words_decide}
use Rattle.theorems.proofs.least_words_decide.Goals as goal

pub returns : goal.returns
returns c = least_words_decide
